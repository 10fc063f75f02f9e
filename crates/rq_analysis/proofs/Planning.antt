-- What is due first can be taken back.
use Rattle.std.proofs.Common.{◌≡◌, ◌/◌, ◌++◌, ℕ, not, List, [], ◌∷◌, length, Option, Some, None, inl, inr, refl, false, sym, ◌∙◌, ap, subst, arith}
use Rattle.std.proofs.lemmas.Bool.{eq-eqb}
use Rattle.std.proofs.lemmas.List.{length-append}
use Rattle.rq_model.specs.declared.record.Deed.{Deed}
use Rattle.rq_model.specs.declared.record.Deed.TheVariants.{Append, UnlinkHead, Close, Mark}
use Rattle.rq_model.specs.declared.record.Record.{Record}
use Rattle.rq_model.specs.declared.record.Record.TheVariants as records
use Rattle.rq_model.specs.Deeds.{deed_by}
use Rattle.rq_model.specs.Unended.{lost}
use Rattle.rq_model.specs.Vocabulary.{In, client_group}
use Rattle.rq_model.proofs.Lists.{In-filter}
use Rattle.rq_page.specs.Sizes.{Sizes, client_slot_at, directory_at}
use Rattle.rq_views.specs.InStore.{InStore, IsDeedOf}
use Rattle.rq_views.specs.Chain.{View}
use Rattle.rq_views.specs.Items.{ReadsItsDeeds, items, told_deed}
use Rattle.rq_views.specs.Legal.{view}
use Rattle.rq_views.specs.Log.{Slots}
use Rattle.rq_views.specs.Stored.{slots_in}
use Rattle.rq_views.proofs.CanUndo.{can_undo_sent, can_undo_taken}
use Rattle.rq_txn.specs.declared.Finished.{Finished}
use Rattle.rq_txn.specs.Rows.{Row, any_under}
use Rattle.rq_txn.proofs.Finding.{in_found}
use Rattle.rq_store.specs.Rows.{placed}
use Rattle.rq_store.specs.State.{State}
use Rattle.rq_store.proofs.Grouping.{groups_of}
use Rattle.rq_store.specs.Whole.{IsWhole}
use Rattle.rq_store.proofs.Others.{none_of}
use Rattle.rq_store.proofs.RowLists.{none_under}
use Rattle.rq_sound.specs.Sound.{IsSound}
use Rattle.rq_sound.specs.Calls.{IsIdle}
use Rattle.rq_sound.specs.Groups.{TellsGroup, slots_now}
use Rattle.rq_sound.proofs.Groups.{none_latched, shows_tag, slots_tell}
use Rattle.rq_sound.proofs.Planned.{sent_last}
use Rattle.rq_sound.specs.Inverses.{StandsOn}
use Rattle.rq_sound.proofs.Inverses.{may_be_undone, open_deed}
use Rattle.rq_analysis.specs.declared.dues.PendingUndo.{PendingUndo}
use Rattle.rq_analysis.specs.Choices.{least_free}
use Rattle.rq_analysis.specs.Dues.{deed_due, due_of, dues, finished_due}
use Rattle.rq_analysis.specs.Moves.{newest_store}
use Rattle.rq_analysis.specs.Walk.{DuesCanBeUndone, IsBetween, IsLastOf, ShowsUndone, StandsLast}
use Rattle.rq_analysis.proofs.Choosing.{chosen_back}
use Rattle.rq_analysis.proofs.Stacks.{in_newest}
use Rattle.rq_analysis.proofs.Logging.{come_sizes, come_sound}

-- what a due has of its OpEnd
abbrev Reads : Sizes → PendingUndo → Type 0
Reads z d = (deed_by d.level d.deed ≡ Some (deed_due d)) × IsDeedOf z (deed_due d)

reads_in : (z : Sizes) (log : List Record) (d : PendingUndo) → ReadsItsDeeds log → InStore z log → In d (dues log) → Reads z d
reads_in z [] d r s i = absurd i
reads_in z (records.OpEnd t n level deed ∷ log) d r s i = elim i [
  | inl e ↦ (let told = r.0.0 in subst (Reads z) (sym e) (told.1 ∙ ap (λ (o : Option Deed). Some (told_deed o)) (sym told.1), s.0))
  | inr j ↦ reads_in z log d r.1 s.1 j
]
reads_in z (records.CompEnd t n undone ∷ log) d r s i = reads_in z log d r.1 s.1 (in_newest (due_of t) (dues log) d i)
reads_in z (records.Commit t ∷ log) d r s i = reads_in z log d r.1 s.1 (In-filter (λ e. not (due_of t e)) (dues log) d i).0
reads_in z (records.AbortEnd t ∷ log) d r s i = reads_in z log d r.1 s.1 (In-filter (λ e. not (due_of t e)) (dues log) d i).0
reads_in z (records.Base many k ∷ log) d r s i = absurd i
reads_in z (_ ∷ log) d r s i = reads_in z log d r.1 s.1 i

pub due_reads : (z : Sizes) (log : List Record) (d : PendingUndo) → IsWhole z log → In d (dues log) → (deed_by d.level d.deed ≡ Some (deed_due d)) × IsDeedOf z (deed_due d)
due_reads z log d w i = reads_in z log d w.reads w.in_store i

-- a store with nothing under way stands on its pages with no rows
pub stands_idle : (s : State) (z : Sizes) (pages : List (List ℕ)) → s.sizes ≡ z → s.images ≡ pages → any_under s.rows ≡ false → StandsOn s z pages []
stands_idle s z pages sizes images idle = record { sizes = sizes; images = images; latches = λ p. none_latched s.rows p idle }

-- where nothing is under way, the slots show that a transaction's newest deed was done last at its end
last_stands : (s : State) (r : Row) (rest : List Finished) (f : Finished) → IsSound s → IsIdle s r → any_under s.rows ≡ false → r.finished ≡ rest ++ f ∷ [] → IsDeedOf s.sizes f.deed → StandsLast s.sizes (slots_now s) f.deed
last_stands s r rest f k m idle newest below = at f.deed refl below where
  q : Slots
  q = slots_now s

  at : (d : Deed) → f.deed ≡ d → IsDeedOf s.sizes d → StandsLast s.sizes q d
  at (Append g n tag previous body) e low =
      let shows = slots_tell.shows s g k low (slots_tell.none_latched s (directory_at g / 16) idle) in
      let d = shows.directory in
      let tells : TellsGroup s g d = slots_tell.tells s g d k low (slots_tell.none_latched s (directory_at g / 16) idle) shows.at in
      let number = sent_last (items s.sizes s.records) r.txn f.lsn g n tag previous body (placed rest) (groups_of s.sizes s.records k.log) (open_deed s r rest f k m newest (Append g n tag previous body) e) in
      let received = tells.received in
      let sent = tells.sent in
      let is : d.sent ≡ n = (let a = number.0 in omega (arith, a, received, sent)) in
      let tail = tells.tail (let b = number.1 in omega (arith, b, sent)) in
      subst (λ x. IsLastOf q x (Append g n tag previous body)) (sym shows.at) (refl, is, record { cell = tail.cell; stands = tail.at; number = tail.sequence ∙ is })
  at (UnlinkHead g n tag body) e low =
      let shows = slots_tell.shows s g k low (slots_tell.none_latched s (directory_at g / 16) idle) in
      let tells : TellsGroup s g shows.directory = slots_tell.tells s g shows.directory k low (slots_tell.none_latched s (directory_at g / 16) idle) shows.at in
      let x = can_undo_taken g (items s.sizes s.records) r.txn f.lsn g n tag body (placed rest) (groups_of s.sizes s.records k.log) (open_deed s r rest f k m newest (UnlinkHead g n tag body) e) (eq-eqb g g refl) in
      subst (λ y. IsLastOf q y (UnlinkHead g n tag body)) (sym shows.at) (refl, sym tells.received ∙ x.0)
  at (Close g) e low =
      let shows = slots_tell.shows s g k low (slots_tell.none_latched s (directory_at g / 16) idle) in
      let tells : TellsGroup s g shows.directory = slots_tell.tells s g shows.directory k low (slots_tell.none_latched s (directory_at g / 16) idle) shows.at in
      let x = can_undo_sent g (items s.sizes s.records) r.txn (record { lsn = f.lsn; deed = Close g }) (placed rest) (groups_of s.sizes s.records k.log) (open_deed s r rest f k m newest (Close g) e) (eq-eqb g g refl) in
      subst (λ y. IsLastOf q y (Close g)) (sym shows.at) (refl, sym tells.closed ∙ ap (λ (v : View). v.closed) x.1)
  at (Mark c tag previous) e low =
      let shows = shows_tag s c k low.0 (slots_tell.none_latched s (client_slot_at s.sizes c / 16) idle) in
      let x = can_undo_sent (client_group c) (items s.sizes s.records) r.txn (record { lsn = f.lsn; deed = Mark c tag previous }) (placed rest) (groups_of s.sizes s.records k.log) (open_deed s r rest f k m newest (Mark c tag previous) e) (eq-eqb (client_group c) (client_group c) refl) in
      let one : length (view (items s.sizes s.records) (client_group c)).messages ≡ length (x.0.messages ++ (tag, []) ∷ []) = ap (λ (v : View). length v.messages) x.1 in
      let more = length-append x.0.messages ((tag, []) ∷ []) in
      let count = shows.count in
      subst (λ y. IsLastOf q y (Mark c tag previous)) (sym shows.at) (shows.own, omega (arith, one, more, count), shows.tag ∙ ap (λ (v : View). v.last_tag) x.1)

pub due_may : (base : State) (images : List (List ℕ)) (log : List Record) (d : PendingUndo) (ds : List PendingUndo) → IsSound base → IsBetween base images log → least_free (dues log) (lost log) ≡ None → dues log ≡ d ∷ ds
    → ShowsUndone base.sizes images log (deed_due d)
due_may base images log d ds k b none first =
    let s = newest_store base b.stores in
    let sound = come_sound base b.stores images log k b.come in
    let h = chosen_back s sound b.come.lost d ds (subst (λ l. least_free (dues l) (lost l) ≡ None) (sym b.come.records_are) none) (ap dues b.come.records_are ∙ first) in
    let m : IsIdle s h.0 = record { at_row = in_found s.rows h.0 sound.standing.distinct h.4.row; idle = none_of h.0.under (none_under s.rows h.0 b.idle h.4.row) } in
    let sizes : s.sizes ≡ base.sizes = come_sizes base b.stores images log k b.come in
    let below : IsDeedOf s.sizes (deed_due d) = (due_reads s.sizes s.records d sound.log (subst (In d) (sym (ap dues b.come.records_are ∙ first)) (inl refl))).1 in
    record {
      store = s;
      sound = sound;
      stands = stands_idle s base.sizes images sizes b.come.images_are b.idle;
      records_are = b.come.records_are;
      idle = b.idle;
      may = may_be_undone s h.0 h.1 (finished_due h.2 d) sound m h.4.last;
      last = subst (λ z. StandsLast z (slots_in z images) (deed_due d)) sizes (subst (λ x. StandsLast s.sizes (slots_in s.sizes x) (deed_due d)) b.come.images_are (last_stands s h.0 h.1 (finished_due h.2 d) sound m b.idle h.4.last below));
    }

pub dues_undone : DuesCanBeUndone
dues_undone = record { reads = due_reads; may = due_may }
