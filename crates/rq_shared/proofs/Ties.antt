-- Steps along entries and stamps.
use Rattle.std.proofs.Common.{◌≡◌, ◌≢◌, ◌↔◌, ℕ, zero, suc, ◌+◌, ◌<◌, ◌≤◌, false, IsTrue, length, drop, get_or, List, [], ◌∷◌, Some, refl, ◌∙◌, eq-eqb, add-one, arith, drop-cons}
use Rattle.std.specs.Prelude.{slice_get, nat_eq}
use mathlib.Core.Logic.{dite}
use native.Mathlib.Decide.{ℕ_discrete}
use Rattle.rq_model.specs.declared.refusal.Refusal.TheVariants.{NoMemory}
use Rattle.rq_engine.specs.declared.event.Reply.{Reply}
use Rattle.rq_engine.specs.declared.event.Reply.TheVariants.{Refused, Stepped, Finished}
use Rattle.rq_engine.specs.declared.event.Progress.TheVariants.{Done, Ready}
use Rattle.rq_level.specs.declared.writes.Outcome.TheVariants.{Sent, Message, Closed, Undone}
use Rattle.rq_engine.specs.Says.{gave}
use Rattle.rq_shared.specs.Entries.{Noted, entries, entry_of}
use Rattle.rq_shared.specs.Tied.{own, left_entries, stamps, stamp_of, lacked_memory}
use Rattle.rq_shared.specs.declared.kept.AuditEntry.{AuditEntry}
use Rattle.rq_shared.specs.declared.kept.Stamped.{Stamped}

told_cons : (s : Noted) (ss : List Noted) → lacked_memory s.gave ≡ false → left_entries (s ∷ ss) ≡ s ∷ left_entries ss
told_cons s ss h = rw h refl

own_cons : (p : ℕ) (x : Noted) (xs : List Noted) → x.pass ≡ p → own p (x ∷ xs) ≡ x ∷ own p xs
own_cons p x xs h = rw (eq-eqb x.pass p h) refl

pub told_here : (ss : List Stamped) (i : ℕ) (s : Stamped) → i < length ss → s ≡ get_or ss i s → lacked_memory (gave s.reply) ≡ false → left_entries (stamps (drop i ss)) ≡ stamp_of s ∷ left_entries (stamps (drop (i + 1) ss))
told_here ss i s lt is h =
    rw (add-one i, drop-cons ss i s lt, ← is, told_cons (stamp_of s) (stamps (drop (suc i) ss)) h) refl

pub get_is : (xs : List AuditEntry) (k : ℕ) (x e : AuditEntry) → slice_get xs k ≡ Some e → x ≡ get_or xs k x → x ≡ e
get_is [] k x e h i = absurd (cc)
get_is (y ∷ ys) zero x e h i = let q : y ≡ e = cc in i ∙ q
get_is (y ∷ ys) (suc k) x e h i = get_is ys k x e h i

pub get_of : (xs : List AuditEntry) (k : ℕ) (e : AuditEntry) → slice_get xs k ≡ Some e → e ≡ get_or xs k e
get_of [] k e h = absurd (cc)
get_of (y ∷ ys) zero e h = cc
get_of (y ∷ ys) (suc k) e h = get_of ys k e h

pub own_here : (p : ℕ) (xs : List AuditEntry) (k : ℕ) (x : AuditEntry) → k < length xs → x ≡ get_or xs k x → x.pass ≡ p → own p (entries (drop k xs)) ≡ entry_of x ∷ own p (entries (drop (k + 1) xs))
own_here p xs k x lt is h =
    rw (add-one k, drop-cons xs k x lt, ← is, own_cons p (entry_of x) (entries (drop (suc k) xs)) h) refl

pub tie_step : (o t b c b' c' : List Noted) (x s : Noted) → ((o ≡ t) ↔ (b ≡ c)) → b ≡ x ∷ b' → c ≡ s ∷ c' → x ≡ s → (o ≡ t) ↔ (b' ≡ c')
tie_step o t b c b' c' x s iff eb ec same =
    ((λ h. let q : b ≡ c = iff.0 h in let w : x ∷ b' ≡ s ∷ c' = cc in cc), (λ h. iff.1 (cc)))

pub tie_stop : (o t b c b' c' : List Noted) (x s : Noted) → ((o ≡ t) ↔ (b ≡ c)) → b ≡ x ∷ b' → c ≡ s ∷ c' → x ≢ s → o ≢ t
tie_stop o t b c b' c' x s iff eb ec apart h =
    let q : b ≡ c = iff.0 h in let w : x ∷ b' ≡ s ∷ c' = cc in apart (cc)

pub told_end : (ss : List Stamped) (i : ℕ) → length ss ≤ i → left_entries (stamps (drop i ss)) ≡ []
told_end [] zero h = refl
told_end [] (suc i) h = refl
told_end (s ∷ ss) zero h = absurd (omega arith)
told_end (s ∷ ss) (suc i) h = told_end ss i (omega arith)

pub tie_left : (o t b c b' : List Noted) (x : Noted) → ((o ≡ t) ↔ (b ≡ c)) → b ≡ x ∷ b' → c ≡ [] → o ≢ t
tie_left o t b c b' x iff eb ec h =
    let q : b ≡ c = iff.0 h in let w : x ∷ b' ≡ [] = cc in cc

-- what was not refused for memory left an entry
pub left_one : (r : Reply) → r ≢ Refused NoMemory → lacked_memory (gave r) ≡ false
left_one (Refused NoMemory) h = absurd (h refl)
left_one (Refused r) h = refl
left_one (Stepped (Done lsn)) h = refl
left_one (Stepped Ready) h = refl
left_one (Finished Sent) h = refl
left_one (Finished (Message m)) h = refl
left_one (Finished Closed) h = refl
left_one (Finished Undone) h = refl
left_one r h = refl

-- all entries were gone through, where the lists are the same
pub tie_end : (n m : ℕ) (o t : List Noted) → n ≤ m → (n < m → o ≢ t) → o ≡ t → IsTrue (nat_eq n m)
tie_end n m o t within apart h =
    dite (ℕ_discrete n m) (λ e. eq-eqb n m e) (λ ne. absurd (apart (omega arith) h))
