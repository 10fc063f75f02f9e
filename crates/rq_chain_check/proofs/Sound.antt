-- The slots that a whole log leaves, with nothing under way, have whole chains.
use Rattle.std.proofs.Common.{◌≡◌, ℕ, ◌<◌, ◌≤◌, ◌⊎◌, inl, inr, List, [], length, true, false, refl, sym, ◌∙◌, ap, subst, Option, Some, None, arith}
use Rattle.std.specs.List.{sum_by}
use Rattle.std.proofs.lemmas.Bool.{cases_lt, false≢true, true≢false}
use Rattle.std.proofs.lemmas.List.{length-map}
use Rattle.rq_model.specs.declared.record.Record.{Record}
use Rattle.rq_model.specs.declared.txn.Sub.{Sub}
use Rattle.rq_model.specs.declared.txn.Txn.{Txn}
use Rattle.rq_model.specs.Tests.{below}
use Rattle.rq_model.specs.Vocabulary.{In, is_some}
use Rattle.rq_model.proofs.Counts.{sum_same}
use Rattle.rq_page.specs.Sizes.{Sizes, IsCellAddress, sender_count}
use Rattle.rq_page.specs.Slots.{Slot}
use Rattle.rq_page.specs.Slots.Slot.{Free, Used, Sender, Client}
use Rattle.rq_views.specs.Chain.{View, Node, message}
use Rattle.rq_views.specs.InStore.{InStore, IsInPlace}
use Rattle.rq_views.specs.Items.{items, layout_of, operation}
use Rattle.rq_views.specs.Legal.{IsLegalLog, under_way, view}
use Rattle.rq_views.specs.Log.{Slots}
use Rattle.rq_views.specs.Plans.{ShowsAt, Spares}
use Rattle.rq_views.specs.Stored.{is_used, count_used, slots_in}
use Rattle.rq_views.proofs.Counting.{quiet_counts}
use Rattle.rq_views.proofs.Idle.{idle_quiet, idle_writes}
use Rattle.rq_views.proofs.Stands.{slots_stand, store_is_layout}
use Rattle.rq_views.proofs.Views.{views}
use Rattle.rq_txn.specs.Rows.{Row, Under, any_under, found_row}
use Rattle.rq_store.specs.Fitting.{left_by}
use Rattle.rq_store.specs.Rows.{is_under}
use Rattle.rq_store.specs.State.{State}
use Rattle.rq_store.proofs.Opening.{idle_log}
use Rattle.rq_store.proofs.RowLists.{found_in, none_under}
use Rattle.rq_sound.specs.Sound.{IsSound}
use Rattle.rq_chain_check.specs.Links.{AreLinked, IsChain}
use Rattle.rq_chain_check.specs.Theorems.{SoundStoresAreLinked}
use Rattle.rq_chain_check.proofs.Chains.{chains_of}
use Rattle.rq_chain_check.proofs.Cover.{all_met}

-- a chain that shows a view is whole
shown_chain : (z : Sizes) (q : Slots) (s : ℕ) (v : View) → (h : ShowsAt (layout_of z) q s v) → IsChain q s h.shows.nodes
shown_chain z q s v h = record {
  directory = h.directory;
  at = h.at;
  linked = h.shows.linked;
  head = h.shows.head;
  tail = h.shows.tail;
  sent = h.shows.sent;
}

-- of each sender below n what is there, and nothing of others
abbrev picked : (n s : ℕ) → ((s < n) → List Node) → (s < n) ⊎ (n ≤ s) → List Node
picked n s f (inl lt) = f lt
picked n s f (inr ge) = []

picked_is : (n s : ℕ) (f : (s < n) → List Node) (P : List Node → Type 0) → ((lt : s < n) → P (f lt)) → s < n → (d : (s < n) ⊎ (n ≤ s)) → P (picked n s f d)
picked_is n s f P h lt (inl l) = h l
picked_is n s f P h lt (inr ge) = absurd (omega (arith, lt, ge))

used_in_place : (z : Sizes) (a : ℕ) (x : Slot) → is_used x ≡ true → IsInPlace z a x → IsCellAddress z a
used_in_place z a Free e h = absurd (false≢true e)
used_in_place z a (Used c) e h = h
used_in_place z a (Sender s d) e h = absurd (false≢true e)
used_in_place z a (Client k) e h = absurd (false≢true e)

module _ (z : Sizes) (log : List Record) (legal : IsLegalLog (layout_of z) (items z log)) (store : InStore z log) (idle : (o : Sub) → under_way o (items z log) ≡ false) where
  abbrev slots : Slots
  slots = (left_by z log).slots

  shown : (s : ℕ) → s < sender_count z → ShowsAt (layout_of z) slots s (view (items z log) s)
  shown s lt = views (layout_of z) (items z log) s (store_is_layout z) legal lt (λ o. subst (Spares s) (sym (idle_writes (layout_of z) (items z log) o legal (idle o))) tt)

  abbrev chain_of : (s : ℕ) → s < sender_count z → List Node
  chain_of s lt = (shown s lt).shows.nodes

  abbrev chains : ℕ → List Node
  chains s = picked (sender_count z) s (chain_of s) (cases_lt s (sender_count z))

  whole : (s : ℕ) → s < sender_count z → IsChain slots s (chains s)
  whole s lt = picked_is (sender_count z) s (chain_of s) (IsChain slots s) (λ l. shown_chain z slots s (view (items z log) s) (shown s l)) lt (cases_lt s (sender_count z))

  long : (s : ℕ) → s < sender_count z → length (view (items z log) s).messages ≡ length (chains s)
  long s lt =
      picked_is (sender_count z) s (chain_of s) (λ ns. length (view (items z log) s).messages ≡ length ns)
      (λ l. ap (λ (x : List (ℕ × List ℕ)). length x) (shown s l).shows.messages ∙ length-map (shown s l).shows.nodes message) lt (cases_lt s (sender_count z))

  counted : count_used z slots ≡ sum_by (λ s. length (chains s)) (below (sender_count z))
  counted =
      let e : slots ≡ (left_by z log).quiet = λ i. λ a. idle_quiet (layout_of z) (items z log) legal idle a i in
      ap (count_used z) e ∙ quiet_counts z log legal store
      ∙ sum_same (λ s. length (view (items z log) s).messages) (λ s. length (chains s)) (sender_count z) long

  slots_linked : AreLinked z slots
  slots_linked =
      let cs = chains_of (sender_count z) slots chains whole in
      record { chains = chains; whole = cs; all = all_met z slots chains cs (λ a e. used_in_place z a (slots a) e (slots_stand z log store a)) counted }

  -- and so are those of other slots with the same in them
  pub idle_linked : (q : Slots) → ((a : ℕ) → q a ≡ slots a) → AreLinked z q
  idle_linked q same = let e : q ≡ slots = λ i. λ a. same a i in subst (AreLinked z) (sym e) slots_linked

not_under : (n : ℕ) (u : Option Under) → is_some u ≡ false → is_under n u ≡ false
not_under n None e = refl
not_under n (Some u) e = absurd (true≢false e)

-- in the log of a sound store no operation is under way that no row has
module _ (s : State) (k : IsSound s) (none : any_under s.rows ≡ false) where
  of_row : (o : Sub) (r : Row) → In r s.rows → r.txn ≡ o.txn → under_way o (items s.sizes s.records) ≡ false
  of_row o r i e =
      ap (λ (t : Txn). under_way (operation t o.number) (items s.sizes s.records)) (sym e)
      ∙ (k.standing.each r i).idle o.number (not_under o.number r.under (none_under s.rows r none i))

  rows_idle : (o : Sub) → under_way o (items s.sizes s.records) ≡ false
  rows_idle o = at (found_row o.txn s.rows) refl where
    at : (w : Option Row) → found_row o.txn s.rows ≡ w → under_way o (items s.sizes s.records) ≡ false
    at None f = (k.standing.others o.txn f).idle o.number
    at (Some r) f = let i = found_in o.txn s.rows r f in of_row o r i.0 i.1

pub sound_linked : SoundStoresAreLinked
sound_linked = record {
  left = λ z q log w none same. idle_linked z log w.legal w.in_store (idle_log z log w.legal none) q same;
  open_store = λ z images log s. idle_linked z log s.log.legal.1 s.log.in_store.1 s.log.legal.0.idle (slots_in z images) s.pages;
  idle = λ s k none. idle_linked s.sizes s.records k.log.legal k.log.in_store (rows_idle s k none) (slots_in s.sizes s.images) k.pages;
}
