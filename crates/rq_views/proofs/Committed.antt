-- What a transaction's own deeds make of a group, and of a view of it.
use Rattle.std.proofs.Common.{◌≡◌, ℕ, ◌+◌, ◌-◌, ◌≤◌, List, [], ◌∷◌, ◌++◌, length, map, drop, refl, sym, ◌∙◌, ap, subst, Bool, true, cond, append_assoc, inl, inr, arith, ◌||◌, nat_eq}
use Rattle.std.proofs.lemmas.List.{append-nil, length-append, drop-drop, drop-append-le, length-map, length-drop, map_push, map-append, drop-map}
use Rattle.std.proofs.lemmas.Bool.{cases_Bool, eqb-true}
use Rattle.std.proofs.Math.Bool.{or_comm}
use Rattle.rq_model.specs.declared.message.Message.{Message}
use Rattle.rq_model.specs.declared.record.Deed.{Deed}
use Rattle.rq_model.specs.declared.record.Deed.TheVariants.{Append, UnlinkHead, Close, Mark}
use Rattle.rq_model.specs.Vocabulary.{client_group, mark_of}
use Rattle.rq_model.specs.History.{Group}
use Rattle.rq_model.specs.Content.{Said, said, added, removed, closed, tag_after, with_own}
use Rattle.rq_model.specs.Content.Said.{Added, Removed, Ended, Marked}
use Rattle.rq_model.proofs.Commits.{last_is}
use Rattle.rq_views.specs.Chain.{View, view_appended}
use Rattle.rq_views.specs.Legal.{Placed}
use Rattle.rq_views.specs.Groups.{on_sending_end, on_receiving_end, side, with_all}
use Rattle.rq_views.specs.Committed.{IsViewOf, message_of}

-- what deeds that stand somewhere say
abbrev pub say : List Placed → List Said
say [] = []
say (p ∷ ps) = said p.deed ∷ say ps

abbrev pair : Message → ℕ × List ℕ
pair m = (m.tag, m.body)

tag_more : (tag : ℕ) (ms : List Message) (m : Message) → tag_after tag (ms ++ m ∷ []) ≡ m.tag
tag_more tag [] m = refl
tag_more tag (x ∷ xs) m = ap (λ (y : Message). y.tag) (last_is x xs m)

view_is : (a b : Bool) (c d : ℕ) (e f : ℕ) (x y : List (ℕ × List ℕ)) → a ≡ b → c ≡ d → e ≡ f → x ≡ y → ◌≡◌ {A = View} (record { closed = a; received = c; last_tag = e; messages = x }) (record { closed = b; received = d; last_tag = f; messages = y })
view_is a b c d e f x y p q r t = cc

-- the sending side, all at once
abbrev sent_view : ℕ → List Said → View → View
sent_view s ds v = record { closed = closed s ds || v.closed; received = v.received; last_tag = tag_after v.last_tag (added s ds); messages = v.messages ++ map pair (added s ds) }

-- one more message at the end
one_sent : (s : ℕ) (m : Message) (ds : List Said) (x v : View) → x ≡ sent_view s ds v → let ms = added s ds ++ m ∷ [] in let y : View = record { closed = closed s ds || v.closed; received = v.received; last_tag = tag_after v.last_tag ms; messages = v.messages ++ map pair ms } in view_appended x m.tag m.body ≡ y
one_sent s m ds x v h =
    ap (λ (w : View). view_appended w m.tag m.body) h
    ∙ view_is _ _ _ _ _ _ _ _ refl refl (sym (tag_more v.last_tag (added s ds) m))
    (append_assoc v.messages (map pair (added s ds)) ((m.tag, m.body) ∷ []) ∙ ap (λ l. v.messages ++ l) (sym (map_push pair (added s ds) m)))

sends_one : (s : ℕ) (d : Deed) (x : Said) (ds : List Said) (more : List Deed) (v : View) → x ≡ said d → with_all more v ≡ sent_view s ds v → with_all (cond (on_sending_end s d) (d ∷ more) more) v ≡ sent_view s (x ∷ ds) v
sends_one s (Append r n tag previous body) x ds more v e h = rw e (elim (cases_Bool (nat_eq r s)) [
  | inl y ↦ rw y (one_sent s (record { sender = r; tag = tag; body = body }) ds (with_all more v) v h)
  | inr y ↦ rw y h
])
sends_one s (UnlinkHead r n tag body) x ds more v e h = rw e h
sends_one s (Close r) x ds more v e h = rw e (elim (cases_Bool (nat_eq r s)) [
  | inl y ↦ rw y (ap (λ (w : View). record { closed = true; received = w.received; last_tag = w.last_tag; messages = w.messages }) h)
  | inr y ↦ rw y h
])
sends_one s (Mark c tag previous) x ds more v e h = rw e (elim (cases_Bool (nat_eq (client_group c) s)) [
  | inl y ↦ rw y (one_sent s (mark_of c tag) ds (with_all more v) v h)
  | inr y ↦ rw y h
])

pub sends_form : (s : ℕ) (ps : List Placed) (v : View) → with_all (side (on_sending_end s) ps) v ≡ sent_view s (say ps) v
sends_form s [] v = view_is _ _ _ _ _ _ _ _ refl refl refl (sym (append-nil v.messages))
sends_form s (p ∷ ps) v = sends_one s p.deed (said p.deed) (say ps) (side (on_sending_end s) ps) v refl (sends_form s ps v)

-- the receiving side, all at once
abbrev taken_view : ℕ → List Said → View → View
taken_view s ds v = record { closed = v.closed; received = v.received + removed s ds; last_tag = v.last_tag; messages = drop (removed s ds) v.messages }

none_taken : (s : ℕ) (ds : List Said) (x v : View) → x ≡ taken_view s ds v → let n = removed s ds + 0 in let y : View = record { closed = v.closed; received = v.received + n; last_tag = v.last_tag; messages = drop n v.messages } in x ≡ y
none_taken s ds x v h = h ∙ view_is _ _ _ _ _ _ _ _ refl (omega arith) refl (ap (λ k. drop k v.messages) (let w : removed s ds ≡ removed s ds + 0 = omega arith in w))

takes_one : (s : ℕ) (d : Deed) (x : Said) (ds : List Said) (more : List Deed) (v : View) → x ≡ said d → with_all more v ≡ taken_view s ds v → with_all (cond (on_receiving_end s d) (d ∷ more) more) v ≡ taken_view s (x ∷ ds) v
takes_one s (Append r n tag previous body) x ds more v e h = rw e (none_taken s ds (with_all more v) v h)
takes_one s (UnlinkHead r n tag body) x ds more v e h = rw e (elim (cases_Bool (nat_eq r s)) [
  | inl y ↦ rw y (ap (λ (w : View). record { closed = w.closed; received = w.received + 1; last_tag = w.last_tag; messages = drop 1 w.messages }) h
      ∙ view_is _ _ _ _ _ _ _ _ refl (omega arith) refl (drop-drop 1 (removed s ds) v.messages))
  | inr y ↦ rw y (none_taken s ds (with_all more v) v h)
])
takes_one s (Close r) x ds more v e h = rw e (none_taken s ds (with_all more v) v h)
takes_one s (Mark c tag previous) x ds more v e h = rw e (none_taken s ds (with_all more v) v h)

pub takes_form : (s : ℕ) (ps : List Placed) (v : View) → with_all (side (on_receiving_end s) ps) v ≡ taken_view s (say ps) v
takes_form s [] v = view_is _ _ _ _ _ _ _ _ refl (omega arith) refl refl
takes_form s (p ∷ ps) v = takes_one s p.deed (said p.deed) (say ps) (side (on_receiving_end s) ps) v refl (takes_form s ps v)

-- all that is added for s is of s
abbrev Ours : ℕ → List Message → Type 0
Ours s [] = Unit {0}
Ours s (m ∷ ms) = (m.sender ≡ s) × Ours s ms

ours_more : (s : ℕ) (ms : List Message) (m : Message) → Ours s ms → m.sender ≡ s → Ours s (ms ++ m ∷ [])
ours_more s [] m o e = (e, tt)
ours_more s (x ∷ ms) m o e = (o.0, ours_more s ms m o.1 e)

ours_one : (s : ℕ) (m : Message) (ms : List Message) → Ours s ms → Ours s (cond (nat_eq m.sender s) (ms ++ m ∷ []) ms)
ours_one s m ms o = elim (cases_Bool (nat_eq m.sender s)) [ inl y ↦ rw y (ours_more s ms m o (eqb-true m.sender s y)) | inr n ↦ rw n o ]

added_ours_one : (s : ℕ) (d : Said) (ds : List Said) → Ours s (added s ds) → Ours s (added s (d ∷ ds))
added_ours_one s (Added m) ds o = ours_one s m (added s ds) o
added_ours_one s (Removed m) ds o = o
added_ours_one s (Ended r) ds o = o
added_ours_one s (Marked c tag) ds o = ours_one s (mark_of c tag) (added s ds) o

added_ours : (s : ℕ) (ds : List Said) → Ours s (added s ds)
added_ours s [] = tt
added_ours s (d ∷ ds) = added_ours_one s d ds (added_ours s ds)

message_is : (s : ℕ) (m : Message) → m.sender ≡ s → message_of s (pair m) ≡ m
message_is s m e = let q : s ≡ m.sender = sym e in ap (λ (k : ℕ). record { sender = k; tag = m.tag; body = m.body }) q

messages_are : (s : ℕ) (ms : List Message) → Ours s ms → map (message_of s) (map pair ms) ≡ ms
messages_are s [] o = refl
messages_are s (m ∷ ms) o = ap (λ x. x ∷ map (message_of s) (map pair ms)) (message_is s m o.0) ∙ ap (λ l. m ∷ l) (messages_are s ms o.1)

-- a commit of these deeds keeps the view that of the group, where no more was taken than there was
pub committed_own : (s : ℕ) (ps : List Placed) (g : Group) (v : View) → IsViewOf s g v → removed s (say ps) ≤ length v.messages
    → IsViewOf s (with_own s (say ps) g) (with_all (side (on_sending_end s) ps) (with_all (side (on_receiving_end s) ps) v))
committed_own s ps g v h le =
    let ds = say ps in
    let form : with_all (side (on_sending_end s) ps) (with_all (side (on_receiving_end s) ps) v) ≡ sent_view s ds (taken_view s ds v) = sends_form s ps (with_all (side (on_receiving_end s) ps) v) ∙ ap (sent_view s ds) (takes_form s ps v) in
    subst (IsViewOf s (with_own s ds g)) (sym form) (record {
      closed = ap (λ b. closed s ds || b) h.closed ∙ or_comm (closed s ds) g.closed;
      received = ap (λ n. n + removed s ds) h.received;
      sent = let a = h.sent in
          let l : length (drop (removed s ds) v.messages ++ map pair (added s ds)) ≡ length (drop (removed s ds) v.messages) + length (map pair (added s ds)) = length-append (drop (removed s ds) v.messages) (map pair (added s ds)) in
          let d : length (drop (removed s ds) v.messages) ≡ length v.messages - removed s ds = length-drop (removed s ds) v.messages in
          let m : length (map pair (added s ds)) ≡ length (added s ds) = length-map (added s ds) pair in
          omega arith;
      last_tag = ap (λ t. tag_after t (added s ds)) h.last_tag;
      rest =
          let n : removed s ds ≤ length g.rest = subst (λ k. removed s ds ≤ k) (sym (ap length h.rest ∙ length-map v.messages (message_of s))) le in
          drop-append-le (removed s ds) g.rest (added s ds) n
          ∙ ap (λ l. drop (removed s ds) l ++ added s ds) h.rest
          ∙ ap (λ l. l ++ added s ds) (drop-map (message_of s) (removed s ds) v.messages)
          ∙ ap (λ l. map (message_of s) (drop (removed s ds) v.messages) ++ l) (sym (messages_are s (added s ds) (added_ours s ds)))
          ∙ sym (map-append (message_of s) (drop (removed s ds) v.messages) (map pair (added s ds)));
    })
