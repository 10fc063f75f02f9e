-- What a client was marked with, as the commits of a log tell it, is what was sent for the client's group: no sender has
-- its number.
use Rattle.std.proofs.Common.{◌≡◌, ℕ, ◌≤◌, ◌^◌, ◌++◌, List, [], ◌∷◌, map, Bool, nat_eq, Option, Some, None, refl, sym, ◌∙◌, ap, inl, inr, arith}
use Rattle.std.specs.List.{filter_map}
use Rattle.std.proofs.lemmas.Bool.{cases_Bool, cases_eq, eq-eqb, ne_eqb}
use Rattle.std.proofs.lemmas.List.{map-append}
use Rattle.rq_model.specs.declared.message.Message.{Message}
use Rattle.rq_model.specs.declared.record.Deed.{Deed}
use Rattle.rq_model.specs.declared.record.Record.{Record}
use Rattle.rq_model.specs.declared.record.Record.TheVariants as records
use Rattle.rq_model.specs.declared.txn.Txn.{Txn}
use Rattle.rq_model.specs.Commits.{committed_of, op_of, ops_told}
use Rattle.rq_model.specs.Content.{deeds, ending_by, kept, said}
use Rattle.rq_model.specs.Counts.{AllBelow}
use Rattle.rq_model.specs.Deeds.{deed_by}
use Rattle.rq_model.specs.Ledger.{Done, marks_in, sent_in, tag_of}
use Rattle.rq_model.specs.Vocabulary.{Op, client_group, last_or, marked_for, same_txn, sent_for}
use Rattle.rq_model.specs.Vocabulary.Op.{Send, Take, End, Mark}
use Rattle.rq_page.specs.Sizes.{Sizes, sender_count}
use Rattle.rq_views.specs.InStore.{InStore, IsDeedOf}
use Rattle.rq_views.specs.Items.{ReadsItsDeeds, told_deed}
use Rattle.rq_views.proofs.OpenCounts.{below_one_more, said_below}

-- the deeds of a log of the store are of its senders, or are marks
said_of : (z : Sizes) (t : Txn) (p : Txn → Bool) (log : List Record) (o : Option Deed) (d : Deed) → o ≡ Some d → IsDeedOf z (told_deed o) → AllBelow (sender_count z) (ops_told (deeds p log)) → AllBelow (sender_count z) (ops_told (kept p (ending_by t o) (deeds p log)))
said_of z t p log None d e inside ih = absurd (let no : None ≡ Some d = e in cc)
said_of z t p log (Some x) d e inside ih = elim (cases_Bool (p t)) [
  | inl y ↦ rw y (below_one_more (sender_count z) (ops_told (deeds p log)) (op_of (said x)) ih (said_below z x inside))
  | inr n ↦ rw n ih
]

deeds_below : (z : Sizes) (p : Txn → Bool) (log : List Record) → ReadsItsDeeds log → InStore z log → AllBelow (sender_count z) (ops_told (deeds p log))
deeds_below z p [] r k = tt
deeds_below z p (records.OpEnd t n level deed ∷ log) r k = said_of z t p log (deed_by level deed) r.0.0.0 r.0.0.1 k.0 (deeds_below z p log r.1 k.1)
deeds_below z p (_ ∷ log) r k = deeds_below z p log r.1 k.1

-- so are all that were committed
abbrev pub AllDone : ℕ → List Done → Type 0
AllDone n [] = Unit {0}
AllDone n (d ∷ ds) = AllBelow n d.ops × AllDone n ds

one_done_more : (n : ℕ) (ds : List Done) (d : Done) → AllDone n ds → AllBelow n d.ops → AllDone n (ds ++ d ∷ [])
one_done_more n [] d h k = (k, tt)
one_done_more n (x ∷ ds) d h k = (h.0, one_done_more n ds d h.1 k)

pub committed_below : (z : Sizes) (log : List Record) → ReadsItsDeeds log → InStore z log → AllDone (sender_count z) (committed_of log)
committed_below z [] r k = tt
committed_below z (records.Commit t ∷ log) r k = one_done_more (sender_count z) (committed_of log) _ (committed_below z log r.1 k.1) (deeds_below z (λ u. same_txn u t) log r.1 k.1)
committed_below z (_ ∷ log) r k = committed_below z log r.1 k.1

-- ---- each operation

abbrev tag : Message → ℕ
tag m = m.tag

same_client : (d c : ℕ) → nat_eq (client_group d) (client_group c) ≡ nat_eq d c
same_client d c = elim (cases_eq d c) [
  | inl same ↦ eq-eqb (client_group d) (client_group c) (ap client_group same) ∙ sym (eq-eqb d c same)
  | inr other ↦ ne_eqb (client_group d) (client_group c) (λ e. other (omega (arith, e))) ∙ sym (ne_eqb d c other)
]

marked_one : (n c : ℕ) (op : Op) (ops : List Op) → n ≤ 2 ^ 32 → AllBelow n (op ∷ ops) → map tag (filter_map (sent_for (client_group c)) ops) ≡ filter_map (marked_for c) ops → map tag (filter_map (sent_for (client_group c)) (op ∷ ops)) ≡ filter_map (marked_for c) (op ∷ ops)
marked_one n c (Send m) ops few h ih = rw (ne_eqb m.sender (client_group c) (λ e. let below = h.0 in omega (arith, few, e, below))) ih
marked_one n c (Take m) ops few h ih = ih
marked_one n c (End s) ops few h ih = ih
marked_one n c (Mark d u) ops few h ih = elim (cases_Bool (nat_eq d c)) [
  | inl y ↦ rw (same_client d c) (rw y (ap (λ (l : List ℕ). u ∷ l) ih))
  | inr m ↦ rw (same_client d c) (rw m ih)
]

marked_all : (n c : ℕ) (ops : List Op) → n ≤ 2 ^ 32 → AllBelow n ops → map tag (filter_map (sent_for (client_group c)) ops) ≡ filter_map (marked_for c) ops
marked_all n c [] few h = refl
marked_all n c (op ∷ ops) few h = marked_one n c op ops few h (marked_all n c ops few h.1)

-- the tags of what was sent for a client's group are its marks
pub marks_are_sent : (n c : ℕ) (ds : List Done) → n ≤ 2 ^ 32 → AllDone n ds → map tag (sent_in ds (client_group c)) ≡ marks_in ds c
marks_are_sent n c [] few h = refl
marks_are_sent n c (d ∷ ds) few h =
    map-append tag (filter_map (sent_for (client_group c)) d.ops) (sent_in ds (client_group c))
    ∙ ap (λ (l : List ℕ). l ++ map tag (sent_in ds (client_group c))) (marked_all n c d.ops few h.0)
    ∙ ap (λ (l : List ℕ). filter_map (marked_for c) d.ops ++ l) (marks_are_sent n c ds few h.1)

last_tag_is : (m : Message) (ms : List Message) → (last_or m ms).tag ≡ last_or m.tag (map tag ms)
last_tag_is m [] = refl
last_tag_is m (x ∷ ms) = last_tag_is x ms

-- and the last of them is the last one's tag
pub last_of_tags : (ms : List Message) → tag_of ms ≡ last_or 0 (map tag ms)
last_of_tags [] = refl
last_of_tags (m ∷ ms) = last_tag_is m ms
