-- A checkpoint of a store without open transactions is a step of the model: a Base stands for all records, and what the store
-- holds stays.
use Rattle.std.proofs.Common.{◌≡◌, ℕ, ◌+◌, ◌-◌, inl, inr, List, [], ◌∷◌, length, drop, cond, Option, refl, sym, ◌∙◌, ap, subst, true, false, arith}
use Rattle.std.proofs.lemmas.Bool.{cases_Bool, false≢true, true≢false}
use Rattle.rq_model.specs.declared.txn.Txn.{Txn}
use Rattle.rq_model.specs.declared.txn.Sub.{Sub}
use Rattle.rq_model.specs.declared.record.Deed.{Deed}
use Rattle.rq_model.specs.declared.record.Record.{Record}
use Rattle.rq_model.specs.declared.record.Record.TheVariants as records
use Rattle.rq_model.specs.Bases.{based}
use Rattle.rq_model.specs.Content.{Said, deeds, ending_by, has_end, kept, said}
use Rattle.rq_model.specs.History.{Call, Entry}
use Rattle.rq_model.specs.Ledger.{Ledger, after, kept_in}
use Rattle.rq_model.specs.Ledger.Phase.{Stopped}
use Rattle.rq_model.specs.Replay.{Reply}
use Rattle.rq_model.specs.Tests.{bad_tags, log_full}
use Rattle.rq_model.specs.Vocabulary.{In, first, is_some, same_txn}
use Rattle.rq_page.specs.Sizes.{Sizes, address}
use Rattle.rq_txn.specs.Rows.{Row, found_row}
use Rattle.rq_views.specs.Items.{ReadsItsDeeds, items}
use Rattle.rq_views.proofs.Strangers.{has_end_same}
use Rattle.rq_views.specs.Legal as legal
use Rattle.rq_views.specs.Legal.{has_deed, under_way}
use Rattle.rq_store.specs.State.{State, ledger_of, open_ones_of, size_of}
use Rattle.rq_store.specs.Fitting.{AllHoldBase, image_in, left_by, oldest}
use Rattle.rq_store.specs.Settled.{IsSettled}
use Rattle.rq_store.specs.Whole.{IsWhole}
use Rattle.rq_store.proofs.Begun.{begun_all}
use Rattle.rq_store.proofs.Fitting.{fits_more, slot_holds}
use Rattle.rq_store.proofs.Within.{all_within}
use Rattle.rq_sound.specs.Calls.{checkpointed, migrated}
use Rattle.rq_sound.specs.ModelSteps.{IsModelStep}
use Rattle.rq_sound.specs.Sound.{IsSound}
use Rattle.rq_sound.specs.Standing.{AreStanding}
use Rattle.rq_sound.proofs.AbortSteps.{runs_now}
use Rattle.rq_sound.proofs.Contracts.{calls_keep}

some_none : {x : Said} {xs : List Said} → x ∷ xs ≡ [] → ⊥
some_none e = cc

-- a transaction that no end of an operation names has done nothing
deedless : (z : Sizes) (t : Txn) (log : List Record) → ReadsItsDeeds log → deeds (λ u. same_txn u t) log ≡ [] → has_deed t (items z log) ≡ false
deedless z t [] r h = refl
deedless z t (records.OpEnd u n level deed ∷ log) r h =
    let rest = deeds (λ v. same_txn v t) log in
    let e : cond (same_txn u t) (said r.0.0.0 ∷ rest) rest ≡ [] = sym (ap (λ (y : Option Deed). kept (λ v. same_txn v t) (ending_by u y) rest) r.0.0.1) ∙ h in
    elim (cases_Bool (same_txn u t)) [
      | inl y ↦ absurd (let bad : said r.0.0.0 ∷ rest ≡ [] = rw y at e in some_none bad)
      | inr off ↦ rw off (deedless z t log r.1 (rw off at e))
    ]
deedless z t (records.PageOp u n page slot before after ∷ log) r h = deedless z t log r.1 h
deedless z t (_ ∷ log) r h = deedless z t log r.1 h

module _ (s : State) (k : IsSound s) (none : s.rows ≡ []) where
  abbrev now : List Record
  now = based s.incarnation s.records

  settled : (t : Txn) → IsSettled s.sizes s.records t
  settled t = k.standing.others t (ap (found_row t) none)

  idle : (o : Sub) → under_way o (items s.sizes s.records) ≡ false
  idle o = (settled o.txn).idle o.number

  -- whoever has done something has ended
  ended : (t : Txn) → has_deed t (items s.sizes s.records) ≡ true → legal.has_end t (items s.sizes s.records) ≡ true
  ended t did = elim (cases_Bool (has_end s.records t)) [
    | inl y ↦ has_end_same s.sizes t s.records ∙ y
    | inr n ↦ absurd (true≢false (sym did ∙ deedless s.sizes t s.records k.log.reads ((settled t).unused n)))
  ]

  whole : IsWhole s.sizes now
  whole = record {
    legal = (record { idle = idle; ended = ended }, k.log.legal);
    told = (tt, k.log.told);
    rules = (tt, (λ t e. absurd (false≢true e)), k.log.rules);
    reads = (tt, k.log.reads);
    in_store = (tt, k.log.in_store);
    befores = (tt, k.log.befores);
    order = ((let some = k.some in let is = k.incarnation in omega (arith, some, is), sym k.incarnation), k.log.order);
    based = (refl, k.log.based);
    behind = (tt, k.log.behind);
    room = (tt, k.log.room);
    numbers = (tt, k.log.numbers);
  }

  -- each page holds what the records left
  holds : AllHoldBase s.sizes (image_in s.images) now
  holds p low high old n least most =
      let none_lost : length now - (length s.records + 1) ≡ 0 = omega arith in
      let all : oldest (length s.records + 1) now ≡ now = ap (λ (m : ℕ). drop m now) none_lost in
      sym (slot_holds s.sizes s.images p n least most) ∙ k.pages (address p n) ∙ ap (λ (log : List Record). (left_by s.sizes log).slots (address p n)) (sym all)

  standing : AreStanding s.sizes now s.ends s.rows s.incarnation s.begins
  standing = record {
    each = λ r j. absurd (subst (In r) none j);
    distinct = k.standing.distinct;
    others = λ t e. let h = k.standing.others t e in record { settled = h.settled; unused = h.unused; idle = h.idle };
    apart = k.standing.apart;
    sending = k.standing.sending;
    receiving = k.standing.receiving;
    strangers = k.standing.strangers;
  }

  pub checkpoint_sound : IsSound (checkpointed s)
  checkpoint_sound = record {
    range = k.range;
    log = whole;
    incarnation = refl;
    begun = begun_all s.incarnation now refl;
    some = k.some;
    pages = k.pages;
    fits = fits_more s.sizes (records.Base (length s.records) s.incarnation) s.records (image_in s.images) k.fits;
    based = holds;
    standing = standing;
    counted = record { committed = k.counted.committed; used = k.counted.used; room = k.counted.room; bound = k.counted.bound; waited = k.counted.waited; covered = k.counted.covered };
    sent = record { counts = k.sent.counts; tags = k.sent.tags };
    forced = omega arith;
  }

  -- what the ledger comes to
  ledger_now : ledger_of (checkpointed s) ≡ after (Entry.Checkpointed (length s.records + 1)) (ledger_of s)
  ledger_now =
      let l : Ledger = ledger_of s in
      let longer : length now ≡ length s.records + 1 = omega arith in
      ap (λ (n : ℕ). record l { records = n; forced = n; durable = kept_in n l.committed }) longer
      ∙ ap (λ (n : ℕ). record l { records = length s.records + 1; forced = length s.records + 1; durable = n }) (all_within s.records (length s.records + 1) (omega arith))

  no_open_ones : is_some (first (open_ones_of s.ends s.rows)) ≡ false
  no_open_ones = ap (λ (rows : List Row). is_some (first (open_ones_of s.ends rows))) none

  pub checkpoint : s.failed ≡ false → log_full (ledger_of s) 1 ≡ false → IsModelStep s Call.Checkpoint (Reply.Gave_checkpoint (length s.records + 1)) (checkpointed s)
  checkpoint running room = record {
    entry = Entry.Checkpointed (length s.records + 1);
    says = refl;
    legal = ((runs_now s k running, (no_open_ones, (room, tt))), refl);
    after = ledger_now;
    sound = checkpoint_sound;
    goes_on = (1, refl);
    stays_forced = let within = k.forced in omega (arith, within);
  }

  pub migration : (pages : ℕ) → s.failed ≡ false → log_full (ledger_of s) 1 ≡ false → bad_tags (size_of s.sizes) pages ≡ false → IsModelStep s (Call.Migrate pages) (Reply.Gave_migrated (length s.records + 1)) (migrated s)
  migration pages running room tags = record {
    entry = Entry.Migrated pages (length s.records + 1);
    says = refl;
    legal = ((runs_now s k running, (tags, (no_open_ones, (room, tt)))), refl);
    after = ap (λ (l : Ledger). record l { phase = Stopped }) ledger_now;
    sound = calls_keep.fails (checkpointed s) checkpoint_sound;
    goes_on = (1, refl);
    stays_forced = let within = k.forced in omega (arith, within);
  }
