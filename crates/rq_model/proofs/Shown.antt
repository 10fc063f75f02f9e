-- The content of each group, three ways.
use Rattle.std.proofs.Common.{◌≡◌, ℕ, ◌≤◌, List, [], ◌∷◌, ◌++◌, length, take, drop, refl, sym, ◌∙◌, ap, subst, true, false, Option, Some, None, ◌⊎◌, inl, inr, arith, ◌||◌}
use Rattle.std.specs.List.{filter_map}
use Rattle.std.proofs.lemmas.Bool.{cases_Bool, or_cases, or_parts, or_left, or_right, and_from, false≢true}
use Rattle.rq_model.specs.declared.txn.Txn.{Txn}
use Rattle.rq_model.specs.declared.refusal.Refusal.{Refusal}
use Rattle.rq_model.specs.declared.refusal.Refusal.TheVariants.{DiskWrite}
use Rattle.rq_model.specs.Vocabulary.{Op, In, same_txn, taken_from, sent_for, last_or, ends, has_txn}
use Rattle.rq_model.specs.History.Entry.{Committed, Forced, Checkpointed, Migrated, Grew, Told_client, Refused, Crash, Restarted}
use Rattle.rq_model.specs.Legal.{Legal, IsLegal}
use Rattle.rq_model.specs.Tests.{Size, size_at}
use Rattle.rq_model.proofs.Lists.{same_is, In-to, In-map}
use Rattle.rq_model.proofs.Same.{Tied-ledger, sends_are, takes_are, marks_are}
use Rattle.std.proofs.lemmas.List.{drop-drop, drop-append-le, length-append, take-append-le, take-take, length-take, length-map, length_push}
use Rattle.rq_model.specs.History.{Entry, Call, Fin, finished, did_by, ops_by, commits, committed_by, ended, closes_by, durable, durable_by, sends, marks}
use Rattle.rq_model.specs.Ledger.{Done, Ledger, after, ledger, any_ends, ended_in, group_in, sent_in, taken_in, tag_of}
use Rattle.rq_model.specs.Groups.{group, with_ops, Survives}
use Rattle.rq_model.proofs.Keeps.{taken_more, sent_more}
use Rattle.rq_model.proofs.Ends.{in_has, any_ends_more, ended_none}
use Rattle.rq_model.proofs.Commits.{group_is, tag_more}
use Rattle.rq_model.proofs.Follows.{legal_there}

closes_has : (c : List Txn) (s : ℕ) (u : Txn) (w : Option Fin) (ops : List Op) → In u c → any_ends s (did_by u w ops) ≡ true → (closes_by c s w ≡ true) ⊎ (any_ends s ops ≡ true)
closes_has c s u None ops j e = inr e
closes_has c s u (Some d) ops j e = elim (cases_Bool (same_txn d.txn u)) [
  | inr n ↦ inr (rw n at e)
  | inl y ↦ let v : any_ends s (ops ++ d.op ∷ []) ≡ true = rw y at e in
      elim (or_cases (any_ends s ops) (ends s d.op) (sym (any_ends_more s ops d.op) ∙ v)) [
        | inl x ↦ inr x
        | inr x ↦ inl (and_from (has_txn d.txn c) (ends s d.op) (ap (λ t. has_txn t c) (same_is d.txn u y) ∙ in_has u c j) x)
      ]
]

ended_has : (c : List Txn) (s : ℕ) (u : Txn) (h : List Entry) → In u c → any_ends s (ops_by h u) ≡ true → ended c s h ≡ true
ended_has c s u [] j e = absurd (false≢true e)
ended_has c s u (x ∷ h) j e = elim (closes_has c s u (finished x) (ops_by h u) j e) [
  | inl y ↦ or_left (closes_by c s (finished x)) (ended c s h) y
  | inr y ↦ or_right (closes_by c s (finished x)) (ended c s h) (ended_has c s u h j y)
]

closer : (c : List Done) (s : ℕ) → ended_in c s ≡ true → (d : Done) × In d c × (any_ends s d.ops ≡ true)
closer [] s e = absurd (false≢true e)
closer (x ∷ c) s e = elim (or_cases (any_ends s x.ops) (ended_in c s) e) [ inl y ↦ (x, inl refl, y) | inr y ↦ let g = closer c s y in (g.0, inr g.1, g.2) ]

pub not_ended : (c : List Done) (s : ℕ) (d : Done) → ended_in c s ≡ false → In d c → any_ends s d.ops ≡ false
not_ended [] s d e j = absurd j
not_ended (x ∷ c) s d e j = let p = or_parts (any_ends s x.ops) (ended_in c s) e in elim j [ inl w ↦ ap (λ (y : Done). any_ends s y.ops) w ∙ p.0 | inr w ↦ not_ended c s d p.1 w ]

pub ended_are : (z : Size) (h : List Entry) (s : ℕ) → IsLegal z h → ended (commits h) s h ≡ ended_in (ledger h).committed s
ended_are z h s a =
    let c = (ledger h).committed in
    let g = Tied-ledger z h a in
    elim (cases_Bool (ended_in c s)) [
      | inl y ↦ (let w = closer c s y in ended_has (commits h) s w.0.txn h (subst (In w.0.txn) g.names (In-to (λ (x : Done). x.txn) c w.0 w.1)) (ap (any_ends s) (g.done w.0 w.1) ∙ w.2)) ∙ sym y
      | inr n ↦ ended_none (commits h) s h (λ u j. let w = In-map (λ (x : Done). x.txn) c u (subst (In u) (sym g.names) j) in ap (λ t. any_ends s (ops_by h t)) w.2 ∙ ap (any_ends s) (g.done w.0 w.1) ∙ not_ended c s w.0 n w.1) ∙ sym n
    ]

-- the ledger shows what the filters say
pub group_are : (z : Size) (h : List Entry) (s : ℕ) → IsLegal z h → group h s ≡ group_in (ledger h).committed s
group_are z h s a =
    let x = sends_are z h s a in
    let y = takes_are z h s a in
    group_is _ _ _ _ _ _ _ _ _ _ (ap length x) (ap tag_of x) (ap length y) (ended_are z h s a) (ap (λ n. drop n (sends h s)) (ap length y) ∙ ap (drop (length (taken_in (ledger h).committed s))) x)

-- what is told of a client is the number of its committed marks, and the last one's tag
pub told_marks : (z : Size) (h : List Entry) (c count tag : ℕ) → IsLegal z (Told_client c count tag ∷ h) → (count ≡ length (marks h c)) × (tag ≡ last_or 0 (marks h c))
told_marks z h c count tag a = let same = sym (marks_are z h c a.1) in (a.0.1 ∙ ap length same, a.0.2 ∙ ap (last_or 0) same)

ended_join : (c : List Done) (d : Done) (s : ℕ) → ended_in (c ++ d ∷ []) s ≡ (ended_in c s || any_ends s d.ops)
ended_join [] d s = elim (cases_Bool (any_ends s d.ops)) [ inl y ↦ rw y refl | inr n ↦ rw n refl ]
ended_join (x ∷ c) d s = elim (cases_Bool (any_ends s x.ops)) [ inl y ↦ rw y refl | inr n ↦ rw n (ended_join c d s) ]

-- a commit makes of a group what its own operations say
pub group_more : (c : List Done) (d : Done) (s : ℕ) → length (taken_in c s) ≤ length (sent_in c s) → group_in (c ++ d ∷ []) s ≡ with_ops s d.ops (group_in c s)
group_more c d s h =
    let n = filter_map (sent_for s) d.ops in
    let k = filter_map (taken_from s) d.ops in
    group_is _ _ _ _ _ _ _ _ _ _
    (ap length (sent_more c d s) ∙ length-append (sent_in c s) n)
    (ap tag_of (sent_more c d s) ∙ tag_more (sent_in c s) n)
    (ap length (taken_more c d s) ∙ length-append (taken_in c s) k)
    (ended_join c d s)
    (ap (λ l. drop (length l) (sent_in (c ++ d ∷ []) s)) (taken_more c d s)
    ∙ ap (λ l. drop (length (taken_in c s ++ k)) l) (sent_more c d s)
    ∙ ap (λ m. drop m (sent_in c s ++ n)) (length-append (taken_in c s) k)
    ∙ sym (drop-drop (length k) (length (taken_in c s)) (sent_in c s ++ n))
    ∙ ap (drop (length k)) (drop-append-le (length (taken_in c s)) (sent_in c s) n h))

durable_refused : (l : Ledger) (c : Call) (r : Refusal) → (after (Refused c r) l).durable ≡ l.durable
durable_refused l c DiskWrite = refl
durable_refused l c r = refl

-- the ledger's number of commits that stay
durable_one : (l : Ledger) (e : Entry) → (after e l).durable ≡ durable_by e (length l.committed) l.durable
durable_one l (Refused c r) = durable_refused l c r
durable_one l _ = refl

durable_is : (z : Size) (h : List Entry) → IsLegal z h → (ledger h).durable ≡ durable h
durable_is z [] a = refl
durable_is z (e ∷ h) a =
    durable_one (ledger h) e ∙ ap (durable_by e (length (ledger h).committed)) (durable_is z h a.1)
    ∙ ap (λ n. durable_by e n (durable h)) (sym (length-map (ledger h).committed (λ (d : Done). d.txn)) ∙ ap length (Tied-ledger z h a.1).names)

-- a legal entry keeps the first n commits, where n may not be taken, and never lowers that number
kept_one : (z : Size) (l : Ledger) (e : Entry) (c : List Txn) (n : ℕ) → Legal z l e → n ≤ l.durable → n ≤ length c → take n (committed_by e c) ≡ take n c
kept_one z l (Committed t n) c m a b w = take-append-le m c (t ∷ []) w
kept_one z l (Crash k r) c m a b w = take-take m k c (let x : l.durable ≤ k = a.durable in omega arith)
kept_one z l (Refused c r) d m a b w = refl
kept_one z l _ c m a b w = refl

bound_one : (z : Size) (l : Ledger) (e : Entry) (c : List Txn) (d : ℕ) → Legal z l e → l.durable ≡ d → d ≤ length c → (durable_by e (length c) d ≤ length (committed_by e c)) × (d ≤ durable_by e (length c) d)
bound_one z l (Committed t n) c d a e w = (omega (arith, w, length_push c t), omega arith)
bound_one z l (Forced n) c d a e w = (omega arith, w)
bound_one z l (Checkpointed n) c d a e w = (omega arith, w)
bound_one z l (Migrated pages n) c d a e w = (omega arith, w)
bound_one z l (Grew pages records) c d a e w = (omega arith, w)
bound_one z l (Crash k r) c d a e w = (let x : l.durable ≤ k = a.durable in omega (arith, x, e, w, length-take k c), omega arith)
bound_one z l (Restarted i r) c d a e w = (omega arith, w)
bound_one z l _ c d a e w = (w, omega arith)

durable_within : (z : Size) (h : List Entry) → IsLegal z h → durable h ≤ length (commits h)
durable_within z [] a = omega arith
durable_within z (e ∷ h) a = (bound_one (size_at z h) (ledger h) e (commits h) (durable h) (legal_there z h e a.0) (durable_is z h a.1) (durable_within z h a.1)).0

durable_grows : (z : Size) (newer h : List Entry) → IsLegal z (newer ++ h) → durable h ≤ durable (newer ++ h)
durable_grows z [] h a = omega arith
durable_grows z (e ∷ newer) h a =
    let x = durable_grows z newer h a.1 in
    let y = (bound_one (size_at z (newer ++ h)) (ledger (newer ++ h)) e (commits (newer ++ h)) (durable (newer ++ h)) (legal_there z (newer ++ h) e a.0) (durable_is z (newer ++ h) a.1) (durable_within z (newer ++ h) a.1)).1 in
    omega arith

-- the commits that a force has followed stay, whatever comes
pub survives : (z : Size) (newer h : List Entry) → IsLegal z (newer ++ h) → Survives newer h
survives z [] h a = refl
survives z (e ∷ newer) h a =
    let d = durable_grows z newer h a.1 in
    let w = durable_within z (newer ++ h) a.1 in
    kept_one (size_at z (newer ++ h)) (ledger (newer ++ h)) e (commits (newer ++ h)) (durable h) (legal_there z (newer ++ h) e a.0) (let q = durable_is z (newer ++ h) a.1 in omega arith) (omega arith) ∙ survives z newer h a.1
