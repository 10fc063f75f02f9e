-- A store that is opened from what files held is sound.
use Rattle.std.proofs.Common.{◌≡◌, ℕ, List, sym, subst}
use Rattle.rq_log.specs.Spelled.{EndsWith}
use Rattle.rq_disk.specs.declared.device.LogDevice as log_device
use Rattle.rq_disk.specs.declared.device.PageDevice as page_device
use Rattle.rq_engine.specs.Opened.{OpenStore}
use Rattle.rq_pool.specs.Reading.{IsSuperblock}
use Rattle.rq_model.specs.Bases.{earlier}
use Rattle.rq_restart.specs.declared.restart.Report.{Report}
use Rattle.rq_restart.specs.Opens.{Opens}
use Rattle.rq_restart.specs.Restarting.{IsReadAs, IsLeftOn}
use Rattle.rq_restart.proofs.Pasts.{opened_earlier}
use Rattle.rq_shared.specs.Entries.{WasSound}
use Rattle.rq_store.specs.Opening.{IsLeft}
use Rattle.rqm.specs.Holding.{HoldStore}

pub was_sound : {P L : Type 0} (p : page_device.Ghosts P) (l : log_device.Ghosts L) (pages : P) (log : L)
    (frames : ℕ) (images : ℕ → List ℕ) (bytes : List ℕ) (e : OpenStore P L) (report : Report)
    → p.seen pages ≡ images → l.seen log ≡ bytes
    → Opens p l pages log frames e report
    → WasSound p l (HoldStore images bytes) e
was_sound p l pages log frames images bytes e report seen read opened held honest =
    let z = e.state.sizes in
    let first = subst (λ (i : ℕ → List ℕ). IsSuperblock z (i 0)) seen (opened.sizes honest.0) in
    let told : IsReadAs l log e.log held.records = record {
      honest = honest.1;
      are_spelled = held.are_spelled;
      reads = subst (EndsWith held.records) (sym read) held.reads;
    } in
    let left : IsLeftOn p z pages e.pages held.records = record {
      honest = honest.0;
      left = subst (λ (i : ℕ → List ℕ). IsLeft z i held.records) (sym seen) (held.left z first);
    } in
    (earlier held.records, opened_earlier held.records e.state (opened.over held.records told).value held.are_spelled left.left.whole.based, (opened.recovers held.records told left).sound)
