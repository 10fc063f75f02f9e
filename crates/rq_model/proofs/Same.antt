-- The ledger of a legal history has what the filters of the history say.
use Rattle.std.proofs.Common.{◌≡◌, ℕ, zero, suc, ◌+◌, ◌<◌, ◌≤◌, List, [], ◌∷◌, ◌++◌, take, map, refl, sym, ◌∙◌, ap, subst, true, false, Option, Some, None, ◌⊎◌, inl, inr, arith, ◌≢◌}
use Rattle.std.specs.List.{filter_map, flat_map}
use Rattle.std.proofs.lemmas.List.{map-append, take-map}
use Rattle.std.proofs.lemmas.Bool.{cases_Bool, true≢false, not-false}
use Rattle.rq_model.specs.declared.txn.Txn.{Txn}
use Rattle.rq_model.specs.declared.refusal.Refusal.{Refusal}
use Rattle.rq_model.specs.declared.refusal.Refusal.TheVariants.{DiskWrite}
use Rattle.rq_model.specs.Vocabulary.{Op, IsPrefix, In, same_txn, taken_from, sent_for, marked_for}
use Rattle.rq_model.specs.History.{Job, Entry, Call, ops_by, commits, sends, takes, marks}
use Rattle.rq_model.specs.History.Job.{Sending, Taking, Ending, Marking, Undoing}
use Rattle.rq_model.specs.History.Entry.{Begun, Started, None_free, None_from, Stepped, Ready, Did, Undid, Committed, Acknowledged, Aborting, None_left, Aborted, Handed_over, Forced, Checkpointed, Migrated, Grew, Wrote, Told, Told_client, Shown, Refused, Crash, Restarted}
use Rattle.rq_model.specs.Ledger.{Open, Done, Ledger, sent_in, taken_in, marks_in, found, change, without, ops_of, after, ledger, started, stepped, writes, done_more, undone, fresh_one}
use Rattle.rq_model.specs.Legal.{Legal, IsLegal, start_of}
use Rattle.rq_model.specs.Tests.{Size, Passes, is_aborting, size_at}
use Rattle.rq_model.proofs.Lists.{same_is, same_self}
use Rattle.rq_model.proofs.Keeps.{IsOld, current_old, found_in, changed, gone}
use Rattle.rq_model.proofs.Each.{start_at, did_at, undid_at, step_at, GoodAt, Good-ledger, known}
use Rattle.rq_model.proofs.Follows.{legal_there}

pub record Tied (h : List Entry) (c : List Done) (os : List Open) (i b : ℕ) : Type 0 where
  pub names : map (λ (d : Done). d.txn) c ≡ commits h
  pub done : (d : Done) → In d c → ops_by h d.txn ≡ d.ops
  pub open_ops : (o : Open) → In o os → o.aborting ≡ false → ops_by h o.txn ≡ o.ops
  pub undoing : (o : Open) → In o os → o.under ≡ Some Undoing → o.aborting ≡ true
  pub apart : (d : Done) (o : Open) → In d c → In o os → d.txn ≢ o.txn
  pub none : (t : Txn) → (IsOld i b t → ⊥) → ops_by h t ≡ []
  pub old_done : (d : Done) → In d c → IsOld i b d.txn

abbrev pub TiedAt : List Entry → Ledger → Type 0
TiedAt h l = Tied h l.committed l.open_ones l.incarnation l.begins

pub In-append : {X : Type 0} (xs : List X) (y x : X) → In x (xs ++ y ∷ []) → In x xs ⊎ (x ≡ y)
In-append [] y x h = elim h [ inl e ↦ inr e | inr e ↦ absurd e ]
In-append (z ∷ xs) y x h = elim h [ inl e ↦ inl (inl e) | inr i ↦ elim (In-append xs y x i) [ inl w ↦ inl (inr w) | inr w ↦ inr w ] ]

pub In-take : {X : Type 0} (n : ℕ) (xs : List X) (x : X) → In x (take n xs) → In x xs
In-take zero xs x h = absurd h
In-take (suc n) [] x h = absurd h
In-take (suc n) (y ∷ xs) x h = elim h [ inl e ↦ inl e | inr i ↦ inr (In-take n xs x i) ]

pub other_same : (a b : Txn) → a ≢ b → same_txn a b ≡ false
other_same a b n = elim (cases_Bool (same_txn a b)) [ inl y ↦ absurd (n (same_is a b y)) | inr k ↦ k ]

-- where an entry leaves what each did, and neither list grows
Tied-same : (h : List Entry) (e : Entry) (c : List Done) (os os' : List Open) (i b : ℕ) → Tied h c os i b → commits (e ∷ h) ≡ commits h → ((t : Txn) → ops_by (e ∷ h) t ≡ ops_by h t)
    → ((q : Open) → In q os' → (o : Open) × In o os × (q.txn ≡ o.txn) × (q.aborting ≡ false → (o.aborting ≡ false) × (q.ops ≡ o.ops)) × (q.under ≡ Some Undoing → q.aborting ≡ true)) → Tied (e ∷ h) c os' i b
Tied-same h e c os os' i b g n k f = record {
  names = g.names ∙ sym n;
  done = λ d j. k d.txn ∙ g.done d j;
  open_ops = λ q j a. let w = f q j in k q.txn ∙ ap (ops_by h) w.2 ∙ g.open_ops w.0 w.1 (w.3 a).0 ∙ sym (w.3 a).1;
  undoing = λ q j. (f q j).4;
  apart = λ d q j m e. let w = f q m in g.apart d w.0 j w.1 (e ∙ w.2);
  none = λ t m. k t ∙ g.none t m;
  old_done = g.old_done;
}

-- the same entries
Tied-all : (h : List Entry) (e : Entry) (c : List Done) (os : List Open) (i b : ℕ) → Tied h c os i b → commits (e ∷ h) ≡ commits h → ((t : Txn) → ops_by (e ∷ h) t ≡ ops_by h t) → Tied (e ∷ h) c os i b
Tied-all h e c os i b g n k = Tied-same h e c os os i b g n k (λ q j. (q, j, refl, λ a. (a, refl), g.undoing q j))

Tied-did : (h : List Entry) (l : Ledger) (t : Txn) (n : ℕ) (op : Op) (o : Open) → TiedAt h l → GoodAt l → found t l.open_ones ≡ Some o → Tied (Did t n op ∷ h) l.committed (change t (done_more op) l.open_ones) l.incarnation l.begins
Tied-did h l t n op o g good e =
    let at = found_in t l.open_ones o e in
    let others : (u : Txn) → t ≢ u → ops_by (Did t n op ∷ h) u ≡ ops_by h u = λ u m. rw (other_same t u m) refl in
    let own : ops_by (Did t n op ∷ h) t ≡ ops_by h t ++ op ∷ [] = rw (same_self t) refl in
    let cases : (q : Open) → In q (change t (done_more op) l.open_ones) → (q ≡ done_more op o) ⊎ (In q l.open_ones × (q.txn ≢ t)) = λ q j. changed t (done_more op) l.open_ones o q e good.unique j in
    record {
      names = g.names;
      done = λ d j. others d.txn (λ m. g.apart d o j at.0 (sym m ∙ sym at.1)) ∙ g.done d j;
      open_ops = λ q j a. elim (cases q j) [
        | inl w ↦ ap (ops_by (Did t n op ∷ h)) (ap (λ (x : Open). x.txn) w ∙ at.1) ∙ own ∙ ap (λ x. x ++ op ∷ []) (ap (ops_by h) (sym at.1) ∙ g.open_ops o at.0 (ap (λ (x : Open). x.aborting) (sym w) ∙ a)) ∙ ap (λ (x : Open). x.ops) (sym w)
        | inr w ↦ others q.txn (λ m. w.1 (sym m)) ∙ g.open_ops q w.0 a
      ];
      undoing = λ q j a. elim (cases q j) [ inl w ↦ let v : None ≡ Some Undoing = ap (λ (x : Open). x.under) (sym w) ∙ a in absurd (cc) | inr w ↦ g.undoing q w.0 a ];
      apart = λ d q j m x. elim (cases q m) [ inl w ↦ g.apart d o j at.0 (x ∙ ap (λ (y : Open). y.txn) w) | inr w ↦ g.apart d q j w.0 x ];
      none = λ u m. others u (λ x. m (subst (IsOld l.incarnation l.begins) (at.1 ∙ x) (current_old l.incarnation l.begins o.txn (good.old o at.0)))) ∙ g.none u m;
      old_done = g.old_done;
    }

Tied-commit : (h : List Entry) (l : Ledger) (t : Txn) (n : ℕ) (o : Open) → TiedAt h l → GoodAt l → found t l.open_ones ≡ Some o → o.aborting ≡ false → Tied (Committed t n ∷ h) (l.committed ++ record { txn = t; lsn = n; ops = o.ops } ∷ []) (without t l.open_ones) l.incarnation l.begins
Tied-commit h l t n o g good e a =
    let at = found_in t l.open_ones o e in
    record {
      names = map-append (λ (d : Done). d.txn) l.committed (record { txn = t; lsn = n; ops = o.ops } ∷ []) ∙ ap (λ x. x ++ t ∷ []) g.names;
      done = λ d j. elim (In-append l.committed (record { txn = t; lsn = n; ops = o.ops }) d j) [
        | inl w ↦ g.done d w
        | inr w ↦ ap (λ (x : Done). ops_by h x.txn) w ∙ ap (ops_by h) (sym at.1) ∙ g.open_ops o at.0 a ∙ ap (λ (x : Done). x.ops) (sym w)
      ];
      open_ops = λ q j. g.open_ops q (gone t l.open_ones q j).0;
      undoing = λ q j. g.undoing q (gone t l.open_ones q j).0;
      apart = λ d q j m x. let k = gone t l.open_ones q m in elim (In-append l.committed (record { txn = t; lsn = n; ops = o.ops }) d j) [
        | inl w ↦ g.apart d q w k.0 x
        | inr w ↦ k.1 (sym x ∙ ap (λ (y : Done). y.txn) w)
      ];
      none = g.none;
      old_done = λ d j. elim (In-append l.committed (record { txn = t; lsn = n; ops = o.ops }) d j) [
        | inl w ↦ g.old_done d w
        | inr w ↦ subst (IsOld l.incarnation l.begins) (at.1 ∙ ap (λ (y : Done). y.txn) (sym w)) (current_old l.incarnation l.begins o.txn (good.old o at.0))
      ];
    }

Tied-crash : (h : List Entry) (l : Ledger) (k r : ℕ) → TiedAt h l → Tied (Crash k r ∷ h) (take k l.committed) [] l.incarnation l.begins
Tied-crash h l k r g = record {
  names = sym (take-map (λ (d : Done). d.txn) k l.committed) ∙ ap (take k) g.names;
  done = λ d j. g.done d (In-take k l.committed d j);
  open_ops = λ q j. absurd j;
  undoing = λ q j. absurd j;
  apart = λ d q j m. absurd m;
  none = g.none;
  old_done = λ d j. g.old_done d (In-take k l.committed d j);
}

Tied-begun : (h : List Entry) (l : Ledger) (t : Txn) → TiedAt h l → t.incarnation ≡ l.incarnation → t.count ≡ l.begins + 1 → Tied (Begun t ∷ h) l.committed (fresh_one t ∷ l.open_ones) l.incarnation (l.begins + 1)
Tied-begun h l t g e k =
    let new : IsOld l.incarnation l.begins t → ⊥ = λ x. let a : t.count ≤ l.begins = x.not_more e in omega arith in
    record {
      names = g.names;
      done = g.done;
      open_ops = λ q j a. elim j [ inl w ↦ ap (λ (x : Open). ops_by h x.txn) w ∙ g.none t new ∙ ap (λ (x : Open). x.ops) (sym w) | inr w ↦ g.open_ops q w a ];
      undoing = λ q j a. elim j [ inl w ↦ let v : None ≡ Some Undoing = ap (λ (x : Open). x.under) (sym w) ∙ a in absurd (cc) | inr w ↦ g.undoing q w a ];
      apart = λ d q j m x. elim m [ inl w ↦ new (subst (IsOld l.incarnation l.begins) (x ∙ ap (λ (y : Open). y.txn) w) (g.old_done d j)) | inr w ↦ g.apart d q j w x ];
      none = λ u m. g.none u (λ x. m (record { not_later = x.not_later; not_more = λ v. let a : u.count ≤ l.begins = x.not_more v in omega arith }));
      old_done = λ d j. let x = g.old_done d j in record { not_later = x.not_later; not_more = λ v. let a : d.txn.count ≤ l.begins = x.not_more v in omega arith };
    }

Tied-restart : (h : List Entry) (l : Ledger) (i r : ℕ) → TiedAt h l → l.incarnation < i → Tied (Restarted i r ∷ h) l.committed [] i 0
Tied-restart h l i r g e =
    let up : (t : Txn) → IsOld l.incarnation l.begins t → IsOld i 0 t = λ t x. let a : t.incarnation ≤ l.incarnation = x.not_later in record { not_later = omega arith; not_more = λ v. absurd (omega arith) } in
    record {
      names = g.names;
      done = g.done;
      open_ops = λ q j. absurd j;
      undoing = λ q j. absurd j;
      apart = λ d q j m. absurd m;
      none = λ u m. g.none u (λ x. m (up u x));
      old_done = λ d j. up d.txn (g.old_done d j);
    }

-- what changes an entry without its operations
Tied-changed : (h : List Entry) (e : Entry) (l : Ledger) (t : Txn) (f : Open → Open) (o : Open) → TiedAt h l → GoodAt l → found t l.open_ones ≡ Some o → commits (e ∷ h) ≡ commits h → ((u : Txn) → ops_by (e ∷ h) u ≡ ops_by h u)
    → (f o).txn ≡ o.txn → ((f o).aborting ≡ false → (o.aborting ≡ false) × ((f o).ops ≡ o.ops)) → ((f o).under ≡ Some Undoing → (f o).aborting ≡ true) → Tied (e ∷ h) l.committed (change t f l.open_ones) l.incarnation l.begins
Tied-changed h e l t f o g good x n k tx ab un =
    let at = found_in t l.open_ones o x in
    Tied-same h e l.committed l.open_ones (change t f l.open_ones) l.incarnation l.begins g n k (λ q j. elim (changed t f l.open_ones o q x good.unique j) [
      | inl w ↦ (o, at.0, ap (λ (y : Open). y.txn) w ∙ tx, λ a. let v = ab (ap (λ (y : Open). y.aborting) (sym w) ∙ a) in (v.0, ap (λ (y : Open). y.ops) w ∙ v.1), λ a. ap (λ (y : Open). y.aborting) w ∙ un (ap (λ (y : Open). y.under) (sym w) ∙ a))
      | inr w ↦ (q, w.0, refl, λ a. (a, refl), g.undoing q w.0)
    ])

Tied-started : (z : Size) (h : List Entry) (l : Ledger) (t : Txn) (n k : ℕ) (job : Job) (o : Open) → TiedAt h l → GoodAt l → found t l.open_ones ≡ Some o → Passes z l (start_of t job) → Tied (Started t n job ∷ h) l.committed (change t (started n k job) l.open_ones) l.incarnation l.begins
Tied-started z h l t n k (Sending m) o g good x p = Tied-changed h (Started t n (Sending m)) l t (started n k (Sending m)) o g good x refl (λ u. refl) refl (λ a. (a, refl)) (λ a. cc)
Tied-started z h l t n k (Taking m) o g good x p = Tied-changed h (Started t n (Taking m)) l t (started n k (Taking m)) o g good x refl (λ u. refl) refl (λ a. (a, refl)) (λ a. cc)
Tied-started z h l t n k (Ending m) o g good x p = Tied-changed h (Started t n (Ending m)) l t (started n k (Ending m)) o g good x refl (λ u. refl) refl (λ a. (a, refl)) (λ a. cc)
Tied-started z h l t n k (Marking c m) o g good x p = Tied-changed h (Started t n (Marking c m)) l t (started n k (Marking c m)) o g good x refl (λ u. refl) refl (λ a. (a, refl)) (λ a. cc)
Tied-started z h l t n k Undoing o g good x p = Tied-changed h (Started t n Undoing) l t (started n k Undoing) o g good x refl (λ u. refl) refl (λ a. (a, refl)) (λ a. ap is_aborting (sym x) ∙ not-false (is_aborting (found t l.open_ones)) p.1.1.0)

Tied-refused : (h : List Entry) (l : Ledger) (c : Call) (r : Refusal) → TiedAt h l → TiedAt (Refused c r ∷ h) (after (Refused c r) l)
Tied-refused h l c DiskWrite g = Tied-all h (Refused c DiskWrite) l.committed l.open_ones l.incarnation l.begins g refl (λ u. refl)
Tied-refused h l c _ g = Tied-all h _ l.committed l.open_ones l.incarnation l.begins g refl (λ u. refl)

pub Tied-after : (z : Size) (h : List Entry) (l : Ledger) (e : Entry) → Legal z l e → GoodAt l → TiedAt h l → TiedAt (e ∷ h) (after e l)
Tied-after z h l (Begun t) a good g = Tied-begun h l t g a.1 a.2
Tied-after z h l (Started t n job) a good g = Tied-started z h l t n (writes l t job) job (start_at l t n job a.1).0 g good (start_at l t n job a.1).1 a.0
Tied-after z h l (Did t n op) a good g = Tied-did h l t n op (did_at l t op a.1).0 g good (did_at l t op a.1).1
Tied-after z h l (Undid t n) a good g =
    let o = (undid_at l t a.1).0 in
    let at = found_in t l.open_ones o (undid_at l t a.1).1 in
    let ab : o.aborting ≡ true = g.undoing o at.0 (undid_at l t a.1).2 in
    Tied-changed h (Undid t n) l t undone o g good (undid_at l t a.1).1 refl (λ u. refl) refl (λ x. absurd (true≢false (sym ab ∙ x))) (λ x. cc)
Tied-after z h l (Committed t lsn) a good g =
    let k = known l t a.0.1.0 in
    subst (λ x. Tied (Committed t lsn ∷ h) (l.committed ++ record { txn = t; lsn = lsn; ops = ops_of x } ∷ []) (without t l.open_ones) l.incarnation l.begins) (sym k.1) (Tied-commit h l t lsn k.0 g good k.1 (ap is_aborting (sym k.1) ∙ a.0.1.1.0))
Tied-after z h l (Aborting t) a good g =
    let k = known l t a.1.0 in
    Tied-changed h (Aborting t) l t (λ o. record o { aborting = true }) k.0 g good k.1 refl (λ u. refl) refl (λ x. cc) (λ x. refl)
Tied-after z h l (Aborted t) a good g = Tied-same h (Aborted t) l.committed l.open_ones (without t l.open_ones) l.incarnation l.begins g refl (λ u. refl) (λ q j. (q, (gone t l.open_ones q j).0, refl, λ x. (x, refl), g.undoing q (gone t l.open_ones q j).0))
Tied-after z h l (Crash kept records) a good g = Tied-crash h l kept records g
Tied-after z h l (Restarted i records) a good g = Tied-restart h l i records g a.later
Tied-after z h l (Refused c r) a good g = Tied-refused h l c r g
Tied-after z h l (None_free t) a good g = Tied-all h (None_free t) l.committed l.open_ones l.incarnation l.begins g refl (λ u. refl)
Tied-after z h l (None_from t s) a good g = Tied-all h (None_from t s) l.committed l.open_ones l.incarnation l.begins g refl (λ u. refl)
Tied-after z h l (Stepped t n lsn) a good g =
    let k = step_at l t a.1 in
    let at = found_in t l.open_ones k.0 k.1 in
    Tied-changed h (Stepped t n lsn) l t stepped k.0 g good k.1 refl (λ u. refl) refl (λ x. (x, refl)) (λ x. g.undoing k.0 at.0 x)
Tied-after z h l (Ready t n) a good g = Tied-all h (Ready t n) l.committed l.open_ones l.incarnation l.begins g refl (λ u. refl)
Tied-after z h l (Acknowledged t n y) a good g = Tied-all h (Acknowledged t n y) l.committed l.open_ones l.incarnation l.begins g refl (λ u. refl)
Tied-after z h l (None_left t) a good g = Tied-all h (None_left t) l.committed l.open_ones l.incarnation l.begins g refl (λ u. refl)
Tied-after z h l Handed_over a good g = Tied-all h Handed_over l.committed l.open_ones l.incarnation l.begins g refl (λ u. refl)
Tied-after z h l (Forced lsn) a good g = Tied-all h (Forced lsn) l.committed l.open_ones l.incarnation l.begins g refl (λ u. refl)
Tied-after z h l (Checkpointed lsn) a good g = Tied-all h (Checkpointed lsn) l.committed l.open_ones l.incarnation l.begins g refl (λ u. refl)
Tied-after z h l (Migrated pages lsn) a good g = Tied-all h (Migrated pages lsn) l.committed l.open_ones l.incarnation l.begins g refl (λ u. refl)
Tied-after z h l (Grew pages records) a good g = Tied-all h (Grew pages records) l.committed l.open_ones l.incarnation l.begins g refl (λ u. refl)
Tied-after z h l (Wrote page done) a good g = Tied-all h (Wrote page done) l.committed l.open_ones l.incarnation l.begins g refl (λ u. refl)
Tied-after z h l (Told s sent tag) a good g = Tied-all h (Told s sent tag) l.committed l.open_ones l.incarnation l.begins g refl (λ u. refl)
Tied-after z h l (Told_client c count tag) a good g = Tied-all h (Told_client c count tag) l.committed l.open_ones l.incarnation l.begins g refl (λ u. refl)
Tied-after z h l (Shown groups) a good g = Tied-all h (Shown groups) l.committed l.open_ones l.incarnation l.begins g refl (λ u. refl)

pub Tied-empty : Tied [] [] [] 0 0
Tied-empty = record {
  names = refl;
  done = λ d j. absurd j;
  open_ops = λ q j. absurd j;
  undoing = λ q j. absurd j;
  apart = λ d q j m. absurd m;
  none = λ u m. refl;
  old_done = λ d j. absurd j;
}

pub Tied-ledger : (z : Size) (h : List Entry) → IsLegal z h → TiedAt h (ledger h)
Tied-ledger z [] a = Tied-empty
Tied-ledger z (e ∷ h) a = Tied-after (size_at z h) h (ledger h) e (legal_there z h e a.0) (Good-ledger z h a.1) (Tied-ledger z h a.1)

-- going through the names is going through the transactions
through : {Y : Type 0} (F : Op → Option Y) (h : List Entry) (c : List Done) → ((d : Done) → In d c → ops_by h d.txn ≡ d.ops) → flat_map (λ t. filter_map F (ops_by h t)) (map (λ (d : Done). d.txn) c) ≡ flat_map (λ (d : Done). filter_map F d.ops) c
through F h [] f = refl
through F h (d ∷ c) f = ap (λ x. filter_map F x ++ flat_map (λ t. filter_map F (ops_by h t)) (map (λ (y : Done). y.txn) c)) (f d (inl refl)) ∙ ap (λ x. filter_map F d.ops ++ x) (through F h c (λ y j. f y (inr j)))

-- what the filters say of a legal history is what its ledger has
pub sends_are : (z : Size) (h : List Entry) (s : ℕ) → IsLegal z h → sends h s ≡ sent_in (ledger h).committed s
sends_are z h s a = let g = Tied-ledger z h a in ap (λ c. flat_map (λ t. filter_map (sent_for s) (ops_by h t)) c) (sym g.names) ∙ through (sent_for s) h (ledger h).committed g.done

pub takes_are : (z : Size) (h : List Entry) (s : ℕ) → IsLegal z h → takes h s ≡ taken_in (ledger h).committed s
takes_are z h s a = let g = Tied-ledger z h a in ap (λ c. flat_map (λ t. filter_map (taken_from s) (ops_by h t)) c) (sym g.names) ∙ through (taken_from s) h (ledger h).committed g.done

pub marks_are : (z : Size) (h : List Entry) (c : ℕ) → IsLegal z h → marks h c ≡ marks_in (ledger h).committed c
marks_are z h c a = let g = Tied-ledger z h a in ap (λ ts. flat_map (λ t. filter_map (marked_for c) (ops_by h t)) ts) (sym g.names) ∙ through (marked_for c) h (ledger h).committed g.done

pub ordered : (z : Size) (h : List Entry) (s : ℕ) → IsLegal z h → IsPrefix (takes h s) (sends h s)
ordered z h s a = rw (takes_are z h s a, sends_are z h s a) ((Good-ledger z h a).now s)
