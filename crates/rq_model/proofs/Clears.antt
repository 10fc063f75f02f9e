-- What each legal entry keeps of sending ends and closes.
use Rattle.std.proofs.Common.{◌≡◌, ℕ, ◌+◌, ◌≤◌, List, [], ◌∷◌, ◌++◌, take, map, refl, sym, ◌∙◌, ap, subst, true, false, Option, Some, None, ◌⊎◌, inl, inr, arith, ◌||◌, ◌≢◌}
use Rattle.std.proofs.lemmas.Bool.{cases_Bool, or_cases, or_parts, or_from, and_parts, false≢true, not-false, false_from_ne_true, eqb-true}
use Rattle.rq_model.specs.declared.txn.Txn.{Txn}
use Rattle.rq_model.specs.declared.refusal.Refusal.{Refusal}
use Rattle.rq_model.specs.declared.refusal.Refusal.TheVariants.{DiskWrite}
use Rattle.rq_model.specs.declared.message.Message.{Message}
use Rattle.rq_model.specs.Vocabulary.{Op, In, client_group, has_number, ends, has_txn}
use Rattle.rq_model.specs.Vocabulary.Op.{Send, Take, End, Mark}
use Rattle.rq_model.specs.History.{Job, Entry, Call, finished, did_by, ops_by, commits, is_send_by, sends_to, NoneAfterEnd}
use Rattle.rq_model.specs.History.Job.{Sending, Taking, Ending, Marking, Undoing}
use Rattle.rq_model.specs.History.Entry.{Begun, Started, None_free, None_from, Stepped, Ready, Did, Undid, Committed, Acknowledged, Aborting, None_left, Aborted, Handed_over, Forced, Checkpointed, Migrated, Grew, Wrote, Told, Told_client, Shown, Refused, Crash, Restarted}
use Rattle.rq_model.specs.Ledger.{Open, Done, Ledger, found, change, without, ops_of, after, ledger, started, stepped, writes, done_more, undone, fresh_one, any_ends, ended_in, add_number}
use Rattle.rq_model.specs.Legal.{Legal, IsLegal, start_of, IsDoneBy}
use Rattle.rq_model.specs.Tests.{Size, Passes, is_aborting, has_closed, free_to_send, size_at}
use Rattle.rq_model.proofs.Lists.{same_self, In-map, In-to, In-left, In-right, In-parts}
use Rattle.rq_model.proofs.Keeps.{found_in, changed, gone}
use Rattle.rq_model.proofs.Each.{start_at, did_at, undid_at, step_at, GoodAt, Good-ledger, known, add_same, add_from, add_not, free_is}
use Rattle.rq_model.proofs.Same.{other_same, TiedAt, Tied-ledger, In-append, In-take}
use Rattle.rq_model.proofs.Ends.{any_ends_more, ended_none, fewer}
use Rattle.rq_model.proofs.Shown.{not_ended}
use Rattle.rq_model.proofs.Follows.{legal_there}

abbrev pub alive : List Done → List Open → List Txn
alive c os = map (λ (d : Done). d.txn) c ++ map (λ (o : Open). o.txn) os

pub record Clear (h : List Entry) (c : List Done) (os : List Open) : Type 0 where
  pub one : (o p : Open) (s : ℕ) → In o os → In p os → has_number s o.sending ≡ true → has_number s p.sending ≡ true → o.txn ≡ p.txn
  pub closed : (o : Open) (s : ℕ) → In o os → any_ends s (ops_by h o.txn) ≡ true → has_number s o.sending ≡ true
  pub end_held : (o : Open) (s : ℕ) → In o os → o.under ≡ Some (Ending s) → has_number s o.sending ≡ true
  pub send_held : (o : Open) (m : Message) → In o os → o.under ≡ Some (Sending m) → has_number m.sender o.sending ≡ true
  pub send_clear : (o : Open) (m : Message) → In o os → o.under ≡ Some (Sending m) → any_ends m.sender (ops_by h o.txn) ≡ false
  pub send_open : (o : Open) (m : Message) → In o os → o.under ≡ Some (Sending m) → ended_in c m.sender ≡ false
  pub after : (s : ℕ) → NoneAfterEnd (alive c os) s h

-- who is alive is committed or has not ended
who : (c : List Done) (os : List Open) (u : Txn) → In u (alive c os) → ((d : Done) × In d c × (u ≡ d.txn)) ⊎ ((o : Open) × In o os × (u ≡ o.txn))
who c os u h = elim (In-parts (map (λ (d : Done). d.txn) c) (map (λ (o : Open). o.txn) os) u h) [
  | inl w ↦ inl (In-map (λ (d : Done). d.txn) c u w)
  | inr w ↦ inr (In-map (λ (o : Open). o.txn) os u w)
]

is_committed : (c : List Done) (os : List Open) (d : Done) → In d c → In d.txn (alive c os)
is_committed c os d j = In-left (map (λ (d : Done). d.txn) c) (map (λ (o : Open). o.txn) os) d.txn (In-to (λ (d : Done). d.txn) c d j)

is_open : (c : List Done) (os : List Open) (o : Open) → In o os → In o.txn (alive c os)
is_open c os o j = In-right (map (λ (d : Done). d.txn) c) (map (λ (o : Open). o.txn) os) o.txn (In-to (λ (o : Open). o.txn) os o j)

-- a change of one entry: its ends may grow, to what no other holds
record Change (h : List Entry) (c : List Done) (os : List Open) (o p : Open) : Type 0 where
  pub txn : p.txn ≡ o.txn
  pub grows : (s : ℕ) → has_number s o.sending ≡ true → has_number s p.sending ≡ true
  pub one : (s : ℕ) (q : Open) → In q os → has_number s p.sending ≡ true → has_number s q.sending ≡ true → q.txn ≡ o.txn
  pub end_held : (s : ℕ) → p.under ≡ Some (Ending s) → has_number s p.sending ≡ true
  pub send_held : (m : Message) → p.under ≡ Some (Sending m) → has_number m.sender p.sending ≡ true
  pub send_clear : (m : Message) → p.under ≡ Some (Sending m) → any_ends m.sender (ops_by h o.txn) ≡ false
  pub send_open : (m : Message) → p.under ≡ Some (Sending m) → ended_in c m.sender ≡ false

Clear-change : (h : List Entry) (e : Entry) (l : Ledger) (t : Txn) (f : Open → Open) (o : Open) → Clear h l.committed l.open_ones → GoodAt l → found t l.open_ones ≡ Some o → finished e ≡ None → Change h l.committed l.open_ones o (f o) → Clear (e ∷ h) l.committed (change t f l.open_ones)
Clear-change h e l t f o g good x n w =
    let os = l.open_ones in
    let at = found_in t os o x in
    let cases : (q : Open) → In q (change t f os) → (q ≡ f o) ⊎ (In q os × (q.txn ≢ t)) = λ q j. changed t f os o q x good.unique j in
    let same : (u : Txn) → ops_by (e ∷ h) u ≡ ops_by h u = λ u. ap (λ y. did_by u y (ops_by h u)) n in
    record {
      one = λ q r s j k a b. elim (cases q j) [
        | inl v ↦ elim (cases r k) [
          | inl y ↦ ap (λ (z : Open). z.txn) (v ∙ sym y)
          | inr y ↦ ap (λ (z : Open). z.txn) v ∙ w.txn ∙ sym (w.one s r y.0 (ap (λ (z : Open). has_number s z.sending) (sym v) ∙ a) b)
        ]
        | inr v ↦ elim (cases r k) [
          | inl y ↦ w.one s q v.0 (ap (λ (z : Open). has_number s z.sending) (sym y) ∙ b) a ∙ sym w.txn ∙ sym (ap (λ (z : Open). z.txn) y)
          | inr y ↦ g.one q r s v.0 y.0 a b
        ]
      ];
      closed = λ q s j a. elim (cases q j) [
        | inl v ↦ ap (λ (z : Open). has_number s z.sending) v ∙ w.grows s (g.closed o s at.0 (ap (λ u. any_ends s (ops_by h u)) (sym (ap (λ (z : Open). z.txn) v ∙ w.txn)) ∙ ap (any_ends s) (sym (same q.txn)) ∙ a))
        | inr v ↦ g.closed q s v.0 (ap (any_ends s) (sym (same q.txn)) ∙ a)
      ];
      end_held = λ q s j a. elim (cases q j) [ inl v ↦ ap (λ (z : Open). has_number s z.sending) v ∙ w.end_held s (ap (λ (z : Open). z.under) (sym v) ∙ a) | inr v ↦ g.end_held q s v.0 a ];
      send_held = λ q m j a. elim (cases q j) [ inl v ↦ ap (λ (z : Open). has_number m.sender z.sending) v ∙ w.send_held m (ap (λ (z : Open). z.under) (sym v) ∙ a) | inr v ↦ g.send_held q m v.0 a ];
      send_clear = λ q m j a. ap (any_ends m.sender) (same q.txn) ∙ elim (cases q j) [ inl v ↦ ap (λ u. any_ends m.sender (ops_by h u)) (ap (λ (z : Open). z.txn) v ∙ w.txn) ∙ w.send_clear m (ap (λ (z : Open). z.under) (sym v) ∙ a) | inr v ↦ g.send_clear q m v.0 a ];
      send_open = λ q m j a. elim (cases q j) [ inl v ↦ w.send_open m (ap (λ (z : Open). z.under) (sym v) ∙ a) | inr v ↦ g.send_open q m v.0 a ];
      after = λ s. (
        λ y. absurd (false≢true (ap (is_send_by (alive l.committed (change t f os)) s) (sym n) ∙ y)),
        fewer (alive l.committed os) (alive l.committed (change t f os)) s h (λ u j. inl (elim (who l.committed (change t f os) u j) [
          | inl v ↦ subst (λ z. In z (alive l.committed os)) (sym v.2) (is_committed l.committed os v.0 v.1)
          | inr v ↦ elim (cases v.0 v.1) [
            | inl y ↦ subst (λ z. In z (alive l.committed os)) (sym (v.2 ∙ ap (λ (z : Open). z.txn) y ∙ w.txn)) (is_open l.committed os o at.0)
            | inr y ↦ subst (λ z. In z (alive l.committed os)) (sym v.2) (is_open l.committed os v.0 y.0)
          ]
        ])) (g.after s),
      );
    }

-- a change that leaves the ends and has no send or close under way
Change-plain : (h : List Entry) (c : List Done) (os : List Open) (o p : Open) → Clear h c os → In o os → p.txn ≡ o.txn → p.sending ≡ o.sending → ((m : Message) → p.under ≡ Some (Sending m) → o.under ≡ Some (Sending m)) → ((s : ℕ) → p.under ≡ Some (Ending s) → o.under ≡ Some (Ending s)) → Change h c os o p
Change-plain h c os o p g j e r a b = record {
  txn = e;
  grows = λ s x. ap (has_number s) r ∙ x;
  one = λ s q k x y. g.one q o s k j y (ap (has_number s) (sym r) ∙ x);
  end_held = λ s x. ap (has_number s) r ∙ g.end_held o s j (b s x);
  send_held = λ m x. ap (has_number m.sender) r ∙ g.send_held o m j (a m x);
  send_clear = λ m x. g.send_clear o m j (a m x);
  send_open = λ m x. g.send_open o m j (a m x);
}

-- fewer transactions, and none changed
Clear-fewer : (h : List Entry) (e : Entry) (c c' : List Done) (os os' : List Open) → Clear h c os → finished e ≡ None → ((o : Open) → In o os' → In o os) → ((o : Open) (m : Message) → In o os' → o.under ≡ Some (Sending m) → ended_in c m.sender ≡ false → ended_in c' m.sender ≡ false) → ((u : Txn) → In u (alive c' os') → In u (alive c os)) → Clear (e ∷ h) c' os'
Clear-fewer h e c c' os os' g n f k a =
    let same : (u : Txn) → ops_by (e ∷ h) u ≡ ops_by h u = λ u. ap (λ y. did_by u y (ops_by h u)) n in
    record {
      one = λ q r s j m. g.one q r s (f q j) (f r m);
      closed = λ q s j x. g.closed q s (f q j) (ap (any_ends s) (sym (same q.txn)) ∙ x);
      end_held = λ q s j. g.end_held q s (f q j);
      send_held = λ q m j. g.send_held q m (f q j);
      send_clear = λ q m j x. ap (any_ends m.sender) (same q.txn) ∙ g.send_clear q m (f q j) x;
      send_open = λ q m j x. k q m j x (g.send_open q m (f q j) x);
      after = λ s. (λ y. absurd (false≢true (ap (is_send_by (alive c' os') s) (sym n) ∙ y)), fewer (alive c os) (alive c' os') s h (λ u j. inl (a u j)) (g.after s));
    }

-- an end more, that no other holds
Change-held : (z : Size) (h : List Entry) (l : Ledger) (t : Txn) (n r : ℕ) (o p : Open) → Clear h l.committed l.open_ones → In o l.open_ones → o.txn ≡ t → free_to_send t r l.open_ones ≡ true → p.txn ≡ o.txn → p.sending ≡ add_number r o.sending
    → ((s : ℕ) → p.under ≡ Some (Ending s) → r ≡ s) → ((m : Message) → p.under ≡ Some (Sending m) → (r ≡ m.sender) × (any_ends m.sender (ops_by h o.txn) ≡ false) × (ended_in l.committed m.sender ≡ false)) → Change h l.committed l.open_ones o p
Change-held z h l t n r o p g j e free tx sd en se =
    let held : has_number r p.sending ≡ true = ap (has_number r) sd ∙ add_same r o.sending in
    record {
      txn = tx;
      grows = λ s x. elim (cases_Bool (has_number s p.sending)) [ inl y ↦ y | inr y ↦ absurd (false≢true (sym (add_not s r o.sending (ap (has_number s) (sym sd) ∙ y)) ∙ x)) ];
      one = λ s q k x y. elim (add_from s r o.sending (ap (has_number s) (sym sd) ∙ x)) [
        | inl w ↦ g.one q o s k j y w
        | inr w ↦ free_is (λ (a : Open). a.sending) t r l.open_ones free q k (subst (λ a. has_number a q.sending ≡ true) (sym w) y) ∙ sym e
      ];
      end_held = λ s x. subst (λ a. has_number a p.sending ≡ true) (en s x) held;
      send_held = λ m x. subst (λ a. has_number a p.sending ≡ true) (se m x).0 held;
      send_clear = λ m x. (se m x).1;
      send_open = λ m x. (se m x).2;
    }

Clear-started : (z : Size) (h : List Entry) (l : Ledger) (t : Txn) (n left : ℕ) (job : Job) (o : Open) → Clear h l.committed l.open_ones → GoodAt l → TiedAt h l → found t l.open_ones ≡ Some o → Passes z l (start_of t job) → Clear (Started t n job ∷ h) l.committed (change t (started n left job) l.open_ones)
Clear-started z h l t n left (Sending m) o g good tied x p =
    let at = found_in t l.open_ones o x in
    let w = or_parts (ended_in l.committed m.sender) (has_closed m.sender (found t l.open_ones)) p.1.1.1.1.1.1.1.0 in
    let ab : o.aborting ≡ false = ap is_aborting (sym x) ∙ p.1.1.0 in
    let no : any_ends m.sender (ops_by h o.txn) ≡ false = ap (any_ends m.sender) (tied.open_ops o at.0 ab) ∙ ap (has_closed m.sender) (sym x) ∙ w.1 in
    Clear-change h (Started t n (Sending m)) l t (started n left (Sending m)) o g good x refl
    (Change-held z h l t n m.sender o (started n left (Sending m) o) g at.0 at.1 (not-false (free_to_send t m.sender l.open_ones) p.1.1.1.1.1.1.0) refl refl (λ s e. cc)
    (λ k e. let v : m ≡ k = cc in (ap (λ (y : Message). y.sender) v, subst (λ (y : Message). any_ends y.sender (ops_by h o.txn) ≡ false) v no, subst (λ (y : Message). ended_in l.committed y.sender ≡ false) v w.0)))
Clear-started z h l t n left (Ending r) o g good tied x p =
    let at = found_in t l.open_ones o x in
    Clear-change h (Started t n (Ending r)) l t (started n left (Ending r)) o g good x refl
    (Change-held z h l t n r o (started n left (Ending r) o) g at.0 at.1 (not-false (free_to_send t r l.open_ones) p.1.1.1.1.1.0) refl refl (λ s e. cc) (λ m e. absurd (cc)))
Clear-started z h l t n left (Taking r) o g good tied x p =
    Clear-change h (Started t n (Taking r)) l t (started n left (Taking r)) o g good x refl (Change-plain h l.committed l.open_ones o (started n left (Taking r) o) g (found_in t l.open_ones o x).0 refl refl (λ m e. absurd (cc)) (λ s e. absurd (cc)))
Clear-started z h l t n left (Marking client tag) o g good tied x p =
    let r = client_group client in
    let at = found_in t l.open_ones o x in
    Clear-change h (Started t n (Marking client tag)) l t (started n left (Marking client tag)) o g good x refl
    (Change-held z h l t n r o (started n left (Marking client tag) o) g at.0 at.1 (not-false (free_to_send t r l.open_ones) p.1.1.1.1.1.0) refl refl (λ s e. absurd (cc)) (λ m e. absurd (cc)))
Clear-started z h l t n left Undoing o g good tied x p =
    Clear-change h (Started t n Undoing) l t (started n left Undoing) o g good x refl (Change-plain h l.committed l.open_ones o (started n left Undoing o) g (found_in t l.open_ones o x).0 refl refl (λ m e. absurd (cc)) (λ s e. absurd (cc)))

-- a close that is done had its end
did_end : (h : List Entry) (l : Ledger) (o : Open) (under : Option Job) (op : Op) (s : ℕ) → Clear h l.committed l.open_ones → In o l.open_ones → o.under ≡ under → IsDoneBy l o under op → ends s op ≡ true → has_number s o.sending ≡ true
did_end h l o (Some (Ending r)) (End k) s g j u a e = let w : r ≡ s = sym a ∙ eqb-true k s e in g.end_held o s j (subst (λ x. o.under ≡ Some (Ending x)) w u)
did_end h l o (Some (Sending r)) (Send m) s g j u a e = absurd (false≢true e)
did_end h l o (Some (Taking r)) (Take m) s g j u a e = absurd (false≢true e)
did_end h l o (Some (Marking client tag)) (Mark d v) s g j u a e = absurd (false≢true e)
did_end h l o None op s g j u a e = absurd a
did_end h l o (Some Undoing) op s g j u a e = absurd a
did_end h l o (Some (Sending m)) (Take n) s g j u a e = absurd a
did_end h l o (Some (Sending m)) (End n) s g j u a e = absurd a
did_end h l o (Some (Taking m)) (Send n) s g j u a e = absurd a
did_end h l o (Some (Taking m)) (End n) s g j u a e = absurd a
did_end h l o (Some (Ending m)) (Send n) s g j u a e = absurd a
did_end h l o (Some (Ending m)) (Take n) s g j u a e = absurd a
did_end h l o (Some (Sending m)) (Mark d v) s g j u a e = absurd a
did_end h l o (Some (Taking m)) (Mark d v) s g j u a e = absurd a
did_end h l o (Some (Ending m)) (Mark d v) s g j u a e = absurd a
did_end h l o (Some (Marking client tag)) (Send n) s g j u a e = absurd a
did_end h l o (Some (Marking client tag)) (Take n) s g j u a e = absurd a
did_end h l o (Some (Marking client tag)) (End n) s g j u a e = absurd a

-- a send that is done was under way
did_send : (l : Ledger) (o : Open) (under : Option Job) (op : Op) (s : ℕ) → IsDoneBy l o under op → sends_to s op ≡ true → (m : Message) × (under ≡ Some (Sending m)) × (m.sender ≡ s)
did_send l o (Some (Sending m)) (Send n) s a e = (m, refl, ap (λ (x : Message). x.sender) (sym a) ∙ eqb-true n.sender s e)
did_send l o (Some (Taking r)) (Take m) s a e = absurd (false≢true e)
did_send l o (Some (Ending r)) (End m) s a e = absurd (false≢true e)
did_send l o (Some (Marking client tag)) (Mark d v) s a e = absurd (false≢true e)
did_send l o None op s a e = absurd a
did_send l o (Some Undoing) op s a e = absurd a
did_send l o (Some (Sending m)) (Take n) s a e = absurd a
did_send l o (Some (Sending m)) (End n) s a e = absurd a
did_send l o (Some (Taking m)) (Send n) s a e = absurd a
did_send l o (Some (Taking m)) (End n) s a e = absurd a
did_send l o (Some (Ending m)) (Send n) s a e = absurd a
did_send l o (Some (Ending m)) (Take n) s a e = absurd a
did_send l o (Some (Sending m)) (Mark d v) s a e = absurd a
did_send l o (Some (Taking m)) (Mark d v) s a e = absurd a
did_send l o (Some (Ending m)) (Mark d v) s a e = absurd a
did_send l o (Some (Marking client tag)) (Send n) s a e = absurd a
did_send l o (Some (Marking client tag)) (Take n) s a e = absurd a
did_send l o (Some (Marking client tag)) (End n) s a e = absurd a

-- while o has a send for s under way nobody alive has closed s
none_closed : (h : List Entry) (l : Ledger) (o : Open) (m : Message) → Clear h l.committed l.open_ones → TiedAt h l → In o l.open_ones → o.under ≡ Some (Sending m) → (u : Txn) → In u (alive l.committed l.open_ones) → any_ends m.sender (ops_by h u) ≡ false
none_closed h l o m g tied j a u k = elim (who l.committed l.open_ones u k) [
  | inl v ↦ ap (λ x. any_ends m.sender (ops_by h x)) v.2 ∙ ap (any_ends m.sender) (tied.done v.0 v.1) ∙ not_ended l.committed m.sender v.0 (g.send_open o m j a) v.1
  | inr v ↦ false_from_ne_true (any_ends m.sender (ops_by h u)) (λ e.
      let x : any_ends m.sender (ops_by h v.0.txn) ≡ true = ap (λ y. any_ends m.sender (ops_by h y)) (sym v.2) ∙ e in
      let y : v.0.txn ≡ o.txn = g.one v.0 o m.sender v.1 j (g.closed v.0 m.sender v.1 x) (g.send_held o m j a) in
      false≢true (sym (g.send_clear o m j a) ∙ ap (λ w. any_ends m.sender (ops_by h w)) (sym (v.2 ∙ y)) ∙ e))
]

Clear-did : (h : List Entry) (l : Ledger) (t : Txn) (n : ℕ) (op : Op) (o : Open) → Clear h l.committed l.open_ones → GoodAt l → TiedAt h l → found t l.open_ones ≡ Some o → IsDoneBy l o o.under op → Clear (Did t n op ∷ h) l.committed (change t (done_more op) l.open_ones)
Clear-did h l t n op o g good tied x a =
    let os = l.open_ones in
    let at = found_in t os o x in
    let cases : (q : Open) → In q (change t (done_more op) os) → (q ≡ done_more op o) ⊎ (In q os × (q.txn ≢ t)) = λ q j. changed t (done_more op) os o q x good.unique j in
    let others : (u : Txn) → t ≢ u → ops_by (Did t n op ∷ h) u ≡ ops_by h u = λ u m. rw (other_same t u m) refl in
    let own : ops_by (Did t n op ∷ h) t ≡ ops_by h t ++ op ∷ [] = rw (same_self t) refl in
    let back : (u : Txn) → In u (alive l.committed (change t (done_more op) os)) → In u (alive l.committed os) = λ u j. elim (who l.committed (change t (done_more op) os) u j) [
      | inl v ↦ subst (λ z. In z (alive l.committed os)) (sym v.2) (is_committed l.committed os v.0 v.1)
      | inr v ↦ elim (cases v.0 v.1) [
        | inl y ↦ subst (λ z. In z (alive l.committed os)) (sym (v.2 ∙ ap (λ (z : Open). z.txn) y)) (is_open l.committed os o at.0)
        | inr y ↦ subst (λ z. In z (alive l.committed os)) (sym v.2) (is_open l.committed os v.0 y.0)
      ]
    ] in
    let was : (q : Open) (j : In q (change t (done_more op) os)) → (p : Open) × In p os × (q.txn ≡ p.txn) × (q.sending ≡ p.sending) = λ q j. elim (cases q j) [
      | inl v ↦ (o, at.0, ap (λ (z : Open). z.txn) v, ap (λ (z : Open). z.sending) v)
      | inr v ↦ (q, v.0, refl, refl)
    ] in
    record {
      one = λ q r s j k y z. let v = was q j in let w = was r k in v.2 ∙ g.one v.0 w.0 s v.1 w.1 (ap (has_number s) (sym v.3) ∙ y) (ap (has_number s) (sym w.3) ∙ z) ∙ sym w.2;
      closed = λ q s j y. elim (cases q j) [
        | inl v ↦ ap (λ (z : Open). has_number s z.sending) v ∙ (
            let tx : q.txn ≡ t = ap (λ (z : Open). z.txn) v ∙ at.1 in
            let w : (any_ends s (ops_by h t) || ends s op) ≡ true = sym (any_ends_more s (ops_by h t) op) ∙ ap (any_ends s) (sym own) ∙ ap (λ u. any_ends s (ops_by (Did t n op ∷ h) u)) (sym tx) ∙ y in
            elim (or_cases (any_ends s (ops_by h t)) (ends s op) w) [
              | inl b ↦ g.closed o s at.0 (ap (λ u. any_ends s (ops_by h u)) at.1 ∙ b)
              | inr b ↦ did_end h l o o.under op s g at.0 refl a b
            ])
        | inr v ↦ g.closed q s v.0 (ap (any_ends s) (sym (others q.txn (λ e. v.1 (sym e)))) ∙ y)
      ];
      end_held = λ q s j y. elim (cases q j) [ inl v ↦ let w : None ≡ Some (Ending s) = ap (λ (z : Open). z.under) (sym v) ∙ y in absurd (cc) | inr v ↦ g.end_held q s v.0 y ];
      send_held = λ q m j y. elim (cases q j) [ inl v ↦ let w : None ≡ Some (Sending m) = ap (λ (z : Open). z.under) (sym v) ∙ y in absurd (cc) | inr v ↦ g.send_held q m v.0 y ];
      send_clear = λ q m j y. elim (cases q j) [ inl v ↦ let w : None ≡ Some (Sending m) = ap (λ (z : Open). z.under) (sym v) ∙ y in absurd (cc) | inr v ↦ ap (any_ends m.sender) (others q.txn (λ e. v.1 (sym e))) ∙ g.send_clear q m v.0 y ];
      send_open = λ q m j y. elim (cases q j) [ inl v ↦ let w : None ≡ Some (Sending m) = ap (λ (z : Open). z.under) (sym v) ∙ y in absurd (cc) | inr v ↦ g.send_open q m v.0 y ];
      after = λ s. (
        λ y.
            let p = and_parts (has_txn t (alive l.committed (change t (done_more op) os))) (sends_to s op) y in
            let w = did_send l o o.under op s a p.1 in
            ended_none (alive l.committed (change t (done_more op) os)) s h (λ u j. subst (λ r. any_ends r (ops_by h u) ≡ false) w.2 (none_closed h l o w.0 g tied at.0 w.1 u (back u j))),
        fewer (alive l.committed os) (alive l.committed (change t (done_more op) os)) s h (λ u j. inl (back u j)) (g.after s),
      );
    }

ended_more : (c : List Done) (d : Done) (s : ℕ) → ended_in c s ≡ false → any_ends s d.ops ≡ false → ended_in (c ++ d ∷ []) s ≡ false
ended_more [] d s e k = or_from (any_ends s d.ops) false k refl
ended_more (x ∷ c) d s e k = let p = or_parts (any_ends s x.ops) (ended_in c s) e in or_from (any_ends s x.ops) (ended_in (c ++ d ∷ []) s) p.0 (ended_more c d s p.1 k)

Clear-commit : (h : List Entry) (l : Ledger) (t : Txn) (n : ℕ) (o : Open) → Clear h l.committed l.open_ones → GoodAt l → TiedAt h l → found t l.open_ones ≡ Some o → o.aborting ≡ false → Clear (Committed t n ∷ h) (l.committed ++ record { txn = t; lsn = n; ops = o.ops } ∷ []) (without t l.open_ones)
Clear-commit h l t n o g good tied x ab =
    let os = l.open_ones in
    let at = found_in t os o x in
    let d : Done = record { txn = t; lsn = n; ops = o.ops } in
    Clear-fewer h (Committed t n) l.committed (l.committed ++ d ∷ []) os (without t os) g refl (λ q j. (gone t os q j).0)
    (λ q m j y e. let k = gone t os q j in ended_more l.committed d m.sender e (false_from_ne_true (any_ends m.sender o.ops) (λ b.
    k.1 (g.one q o m.sender k.0 at.0 (g.send_held q m k.0 y) (g.closed o m.sender at.0 (ap (any_ends m.sender) (tied.open_ops o at.0 ab) ∙ b)) ∙ at.1))))
    (λ u j. elim (who (l.committed ++ d ∷ []) (without t os) u j) [
      | inl v ↦ elim (In-append l.committed d v.0 v.1) [
        | inl w ↦ subst (λ z. In z (alive l.committed os)) (sym v.2) (is_committed l.committed os v.0 w)
        | inr w ↦ subst (λ z. In z (alive l.committed os)) (sym (v.2 ∙ ap (λ (y : Done). y.txn) w ∙ sym at.1)) (is_open l.committed os o at.0)
      ]
      | inr v ↦ subst (λ z. In z (alive l.committed os)) (sym v.2) (is_open l.committed os v.0 (gone t os v.0 v.1).0)
    ])

Clear-crash : (h : List Entry) (l : Ledger) (k r : ℕ) → Clear h l.committed l.open_ones → Clear (Crash k r ∷ h) (take k l.committed) []
Clear-crash h l k r g = Clear-fewer h (Crash k r) l.committed (take k l.committed) l.open_ones [] g refl (λ o j. absurd j) (λ o m j. absurd j)
    (λ u j. elim (who (take k l.committed) [] u j) [
      | inl v ↦ subst (λ z. In z (alive l.committed l.open_ones)) (sym v.2) (is_committed l.committed l.open_ones v.0 (In-take k l.committed v.0 v.1))
      | inr v ↦ absurd v.1
    ])

Clear-begun : (h : List Entry) (l : Ledger) (t : Txn) → Clear h l.committed l.open_ones → ops_by h t ≡ [] → Clear (Begun t ∷ h) l.committed (fresh_one t ∷ l.open_ones)
Clear-begun h l t g new =
    let os = l.open_ones in
    record {
      one = λ q r s j k a b. elim j [
        | inl w ↦ absurd (false≢true (ap (λ (z : Open). has_number s z.sending) (sym w) ∙ a))
        | inr w ↦ elim k [ inl v ↦ absurd (false≢true (ap (λ (z : Open). has_number s z.sending) (sym v) ∙ b)) | inr v ↦ g.one q r s w v a b ]
      ];
      closed = λ q s j a. elim j [ inl w ↦ absurd (false≢true (sym (ap (λ (z : Open). any_ends s (ops_by h z.txn)) w ∙ ap (any_ends s) new) ∙ a)) | inr w ↦ g.closed q s w a ];
      end_held = λ q s j a. elim j [ inl w ↦ let v : None ≡ Some (Ending s) = ap (λ (z : Open). z.under) (sym w) ∙ a in absurd (cc) | inr w ↦ g.end_held q s w a ];
      send_held = λ q m j a. elim j [ inl w ↦ let v : None ≡ Some (Sending m) = ap (λ (z : Open). z.under) (sym w) ∙ a in absurd (cc) | inr w ↦ g.send_held q m w a ];
      send_clear = λ q m j a. elim j [ inl w ↦ let v : None ≡ Some (Sending m) = ap (λ (z : Open). z.under) (sym w) ∙ a in absurd (cc) | inr w ↦ g.send_clear q m w a ];
      send_open = λ q m j a. elim j [ inl w ↦ let v : None ≡ Some (Sending m) = ap (λ (z : Open). z.under) (sym w) ∙ a in absurd (cc) | inr w ↦ g.send_open q m w a ];
      after = λ s. (
        λ y. absurd (false≢true y),
        fewer (alive l.committed os) (alive l.committed (fresh_one t ∷ os)) s h (λ u j. elim (who l.committed (fresh_one t ∷ os) u j) [
          | inl v ↦ inl (subst (λ z. In z (alive l.committed os)) (sym v.2) (is_committed l.committed os v.0 v.1))
          | inr v ↦ elim v.1 [
            | inl w ↦ inr (ap (ops_by h) (v.2 ∙ ap (λ (z : Open). z.txn) w) ∙ new)
            | inr w ↦ inl (subst (λ z. In z (alive l.committed os)) (sym v.2) (is_open l.committed os v.0 w))
          ]
        ]) (g.after s),
      );
    }

Clear-same : (h : List Entry) (e : Entry) (c : List Done) (os : List Open) → Clear h c os → finished e ≡ None → Clear (e ∷ h) c os
Clear-same h e c os g n = Clear-fewer h e c c os os g n (λ o j. j) (λ o m j a b. b) (λ u j. j)

Clear-refused : (h : List Entry) (l : Ledger) (c : Call) (r : Refusal) → Clear h l.committed l.open_ones → Clear (Refused c r ∷ h) (after (Refused c r) l).committed (after (Refused c r) l).open_ones
Clear-refused h l c DiskWrite g = Clear-same h (Refused c DiskWrite) l.committed l.open_ones g refl
Clear-refused h l c r g = Clear-same h (Refused c r) l.committed l.open_ones g refl

pub Clear-after : (z : Size) (h : List Entry) (l : Ledger) (e : Entry) → Legal z l e → GoodAt l → TiedAt h l → Clear h l.committed l.open_ones → Clear (e ∷ h) (after e l).committed (after e l).open_ones
Clear-after z h l (Begun t) a good tied g = Clear-begun h l t g (tied.none t (λ x. let b : t.count ≤ l.begins = x.not_more a.1 in let k : t.count ≡ l.begins + 1 = a.2 in omega arith))
Clear-after z h l (Started t n job) a good tied g = Clear-started z h l t n (writes l t job) job (start_at l t n job a.1).0 g good tied (start_at l t n job a.1).1 a.0
Clear-after z h l (Did t n op) a good tied g = Clear-did h l t n op (did_at l t op a.1).0 g good tied (did_at l t op a.1).1 (did_at l t op a.1).2
Clear-after z h l (Undid t n) a good tied g =
    let o = (undid_at l t a.1).0 in
    Clear-change h (Undid t n) l t undone o g good (undid_at l t a.1).1 refl (Change-plain h l.committed l.open_ones o (undone o) g (found_in t l.open_ones o (undid_at l t a.1).1).0 refl refl (λ m e. absurd (cc)) (λ m e. absurd (cc)))
Clear-after z h l (Committed t lsn) a good tied g =
    let k = known l t a.0.1.0 in
    subst (λ x. Clear (Committed t lsn ∷ h) (l.committed ++ record { txn = t; lsn = lsn; ops = ops_of x } ∷ []) (without t l.open_ones)) (sym k.1) (Clear-commit h l t lsn k.0 g good tied k.1 (ap is_aborting (sym k.1) ∙ a.0.1.1.0))
Clear-after z h l (Aborting t) a good tied g =
    let k = known l t a.1.0 in
    Clear-change h (Aborting t) l t (λ o. record o { aborting = true }) k.0 g good k.1 refl (Change-plain h l.committed l.open_ones k.0 (record k.0 { aborting = true }) g (found_in t l.open_ones k.0 k.1).0 refl refl (λ m e. e) (λ m e. e))
Clear-after z h l (Aborted t) a good tied g = Clear-fewer h (Aborted t) l.committed l.committed l.open_ones (without t l.open_ones) g refl (λ q j. (gone t l.open_ones q j).0) (λ o m j x y. y)
    (λ u j. elim (who l.committed (without t l.open_ones) u j) [
      | inl v ↦ subst (λ z. In z (alive l.committed l.open_ones)) (sym v.2) (is_committed l.committed l.open_ones v.0 v.1)
      | inr v ↦ subst (λ z. In z (alive l.committed l.open_ones)) (sym v.2) (is_open l.committed l.open_ones v.0 (gone t l.open_ones v.0 v.1).0)
    ])
Clear-after z h l (Crash kept records) a good tied g = Clear-crash h l kept records g
Clear-after z h l (Restarted i records) a good tied g = Clear-fewer h (Restarted i records) l.committed l.committed l.open_ones [] g refl (λ q j. absurd j) (λ o m j. absurd j)
    (λ u j. elim (who l.committed [] u j) [
      | inl v ↦ subst (λ z. In z (alive l.committed l.open_ones)) (sym v.2) (is_committed l.committed l.open_ones v.0 v.1)
      | inr v ↦ absurd v.1
    ])
Clear-after z h l (Refused c r) a good tied g = Clear-refused h l c r g
Clear-after z h l (None_free t) a good tied g = Clear-same h (None_free t) l.committed l.open_ones g refl
Clear-after z h l (None_from t s) a good tied g = Clear-same h (None_from t s) l.committed l.open_ones g refl
Clear-after z h l (Stepped t n lsn) a good tied g =
    let k = step_at l t a.1 in
    Clear-change h (Stepped t n lsn) l t stepped k.0 g good k.1 refl (Change-plain h l.committed l.open_ones k.0 (stepped k.0) g (found_in t l.open_ones k.0 k.1).0 refl refl (λ m e. e) (λ m e. e))
Clear-after z h l (Ready t n) a good tied g = Clear-same h (Ready t n) l.committed l.open_ones g refl
Clear-after z h l (Acknowledged t n y) a good tied g = Clear-same h (Acknowledged t n y) l.committed l.open_ones g refl
Clear-after z h l (None_left t) a good tied g = Clear-same h (None_left t) l.committed l.open_ones g refl
Clear-after z h l Handed_over a good tied g = Clear-same h Handed_over l.committed l.open_ones g refl
Clear-after z h l (Forced lsn) a good tied g = Clear-same h (Forced lsn) l.committed l.open_ones g refl
Clear-after z h l (Checkpointed lsn) a good tied g = Clear-same h (Checkpointed lsn) l.committed l.open_ones g refl
Clear-after z h l (Migrated pages lsn) a good tied g = Clear-same h (Migrated pages lsn) l.committed l.open_ones g refl
Clear-after z h l (Grew pages records) a good tied g = Clear-same h (Grew pages records) l.committed l.open_ones g refl
Clear-after z h l (Wrote page done) a good tied g = Clear-same h (Wrote page done) l.committed l.open_ones g refl
Clear-after z h l (Told s sent tag) a good tied g = Clear-same h (Told s sent tag) l.committed l.open_ones g refl
Clear-after z h l (Told_client c count tag) a good tied g = Clear-same h (Told_client c count tag) l.committed l.open_ones g refl
Clear-after z h l (Shown groups) a good tied g = Clear-same h (Shown groups) l.committed l.open_ones g refl

pub Clear-ledger : (z : Size) (h : List Entry) → IsLegal z h → Clear h (ledger h).committed (ledger h).open_ones
Clear-ledger z [] a = record {
  one = λ q r s j. absurd j;
  closed = λ q s j. absurd j;
  end_held = λ q s j. absurd j;
  send_held = λ q m j. absurd j;
  send_clear = λ q m j. absurd j;
  send_open = λ q m j. absurd j;
  after = λ s. tt;
}
Clear-ledger z (e ∷ h) a = Clear-after (size_at z h) h (ledger h) e (legal_there z h e a.0) (Good-ledger z h a.1) (Tied-ledger z h a.1) (Clear-ledger z h a.1)

pub none_after_end : (z : Size) (h : List Entry) (s : ℕ) → IsLegal z h → NoneAfterEnd (commits h) s h
none_after_end z h s a =
    let l = ledger h in
    fewer (alive l.committed l.open_ones) (commits h) s h
    (λ u j. inl (In-left (map (λ (d : Done). d.txn) l.committed) (map (λ (o : Open). o.txn) l.open_ones) u (subst (λ c. In u c) (sym (Tied-ledger z h a).names) j))) ((Clear-ledger z h a).after s)
