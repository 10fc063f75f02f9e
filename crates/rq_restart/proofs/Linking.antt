-- Chains that are not whole once the log is mended.
use Rattle.std.proofs.Common.{List, refl}
use Rattle.rq_disk.specs.Device.{Images}
use Rattle.rq_disk.specs.declared.device.PageDevice.{Ghosts}
use Rattle.rq_views.specs.Log.{Slots}
use Rattle.rq_model.specs.declared.record.Record.{Record}
use Rattle.rq_model.specs.declared.refusal.Refusal.{Refusal}
use Rattle.rq_model.specs.declared.refusal.Refusal.TheVariants as why
use Rattle.rq_model.specs.declared.refusal.Damage.TheVariants as damage
use Rattle.rq_page.specs.Sizes.{Sizes}
use Rattle.rq_pool.specs.Fetching.{IsReadAsStored}
use Rattle.rq_pool.specs.Pooled.{IsPool, Pooled}
use Rattle.rq_views.specs.Stored.{slots_in}
use Rattle.rq_engine.specs.Earlier.{rebased}
use Rattle.rq_restart.specs.Past.{WhereLeft}
use Rattle.rq_chain_check.specs.Links.{AreLinked}
use Rattle.rq_chain_check.specs.Stops.{ChecksNot}
use Rattle.rq_chain_check.proofs.Faults.{faults_exact}
use Rattle.rq_chain_check.proofs.Sound.{sound_linked}
use Rattle.rq_restart.specs.RolledBack.{IsRolledBackSince, LinkStops, RollbackStops}
use Rattle.rq_restart.specs.Repeating.{Repeats, paged, slots_on}
use Rattle.rq_restart.specs.Undoing.{IsOfReads}
use Rattle.rq_restart.proofs.Begun.{begun_sound}

module _ {P : Type 0} (z : Sizes) (log rolled_back : List Record) (old : Images) (new : Pooled P) (m : IsRolledBackSince z log rolled_back old (paged new)) (pool : IsPool z new.images) (first : Images) (before : Repeats z log first old) where
  -- of a store that was left so they are
  left_linked : WhereLeft z first log (λ e. AreLinked z (slots_in z new.images))
  left_linked e past left = sound_linked.open_store z new.images (rebased e rolled_back) (begun_sound z first (paged new) new.images log rolled_back e refl pool m.is past (m.recovered first before e past left) (m.repeated first before) left)

  pub unlinked_stops : (e : Refusal) → LinkStops z (slots_on z (paged new)) e → RollbackStops z log first e
  unlinked_stops why.NoMemory s = tt
  unlinked_stops why.DiskRead s = tt
  unlinked_stops (why.Damaged (damage.Page page)) s = record {
    rolled_back = rolled_back;
    rolls_back = m.is;
    planned = m.planned first before;
    last = paged new;
    repeated = m.repeated first before;
    fault = s;
    none = λ e past left. faults_exact.none z (slots_in z new.images) page (left_linked e past left) s;
  }
  unlinked_stops _ s = absurd s

-- why chains were not looked through is told, where each page that was read is the store's
module _ {P : Type 0} (g : Ghosts P) (old new : Pooled P) where
  pub link_stops : (z : Sizes) (q : Slots) (e : Refusal) → ChecksNot g old e new → IsReadAsStored g old new → LinkStops z q e
  link_stops z q why.NoMemory not stored = tt
  link_stops z q why.DiskRead not stored = tt
  link_stops z q (why.Damaged (damage.Page n)) not stored = absurd (not.1 stored)
  link_stops z q _ not stored = absurd not

  pub link_reads : (e : Refusal) → ChecksNot g old e new → IsOfReads e
  link_reads why.NoMemory not = tt
  link_reads why.DiskRead not = tt
  link_reads (why.Damaged (damage.Page n)) not = tt
  link_reads _ not = absurd not
