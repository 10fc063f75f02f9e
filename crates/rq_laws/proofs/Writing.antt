-- Calls that write out or only ask, by two stores in the same state.
use Rattle.std.proofs.Common.{◌≡◌, ℕ, ◌+◌, ◌↔◌, ◌<◌, ◌≤◌, List, length, refl, sym, ◌∙◌, ap, subst, [], Bool, true, false, Result, Ok, Err, ◌⊎◌, inl, inr, arith, true≢false}
use Rattle.std.specs.Prelude.{IfErr, IfOk, OnOk, Vec, map}
use Rattle.std.specs.declared.alloc.Global.{Global}
use Rattle.rq_model.specs.declared.refusal.Refusal.{Refusal}
use Rattle.rq_model.specs.declared.refusal.Refusal.TheVariants as why
use Rattle.rq_model.specs.declared.txn.Txn.{Txn}
use Rattle.rq_model.specs.History.{Entry, Group}
use Rattle.rq_model.specs.History.Call.{Client_tag, Last_tag, Show}
use Rattle.rq_model.specs.Legal.{Legal}
use Rattle.rq_model.specs.Ledger.{group_in}
use Rattle.rq_model.specs.Replay.Reply.{Gave_client_tag, Gave_content, Gave_tag}
use Rattle.rq_model.specs.Tests.{Passes, below}
use Rattle.rq_disk.specs.Device.{Only}
use Rattle.rq_disk.specs.declared.device.LogDevice as log_device
use Rattle.rq_disk.specs.declared.device.PageDevice as page_device
use Rattle.rq_content.specs.Read.{group_of}
use Rattle.rq_content.specs.declared.GroupContent.{GroupContent}
use Rattle.rq_pool.specs.declared.Written.{Written}
use Rattle.rq_pool.specs.declared.Written.TheVariants.{Done, Nothing}
use Rattle.rq_pool.specs.Pooled.{image_at}
use Rattle.rq_pool.specs.Writing.{DeviceAfter, IsUnwritten, changed_after}
use Rattle.rq_page.specs.Pages.{lsn_of}
use Rattle.rq_store.specs.State.{State, ledger_of, size_of}
use Rattle.rq_sound.specs.Sound.{IsSound}
use Rattle.rq_sound.specs.ModelSteps.{IsModelStep}
use Rattle.rq_engine.specs.Answers.{AnswersLegally}
use Rattle.rq_engine.specs.Lists.{IsCommitted}
use Rattle.rq_engine.proofs.Owned.{ok_own}
use Rattle.rq_engine.specs.Opened.{AreHonest, NotWritten, OpenStore, WritesWhen, pooled, state_after}
use Rattle.rq_engine.specs.declared.event.ClientTag.{ClientTag}
use Rattle.rq_engine.specs.declared.event.CommitNo.{CommitNo}
use Rattle.rq_groups.specs.declared.sent.LastTag.{LastTag}
use Rattle.rq_engine.specs.KeptUp.{AreButRead}
use Rattle.rq_laws.specs.Alike.{LeftAlike}
use Rattle.rq_laws.specs.Made.{OnBoth}
use Rattle.rq_laws.specs.Refusals.{IsWant, RefuseAlike, RefuseTheSame}

no_answer : {X : Type 0} (a : X) (r : Refusal) → Ok a ≡ Err r → ⊥
no_answer a r e = cc

-- ---- refused exactly where the store has failed

-- a call is refused as Failed exactly where this is true
abbrev pub FailsWhen : {X : Type 0} → Bool → Result X Refusal → Type 0
FailsWhen failed p = (p ≡ Err why.Failed) ↔ (failed ≡ true)

failed_one : {X Y : Type 0} (failed : Bool) (p : Result X Refusal) (q : Result Y Refusal) → FailsWhen failed p → IfErr p (λ r. r ≡ why.Failed) → FailsWhen failed q → IfErr q (λ r. r ≡ why.Failed) → RefuseTheSame p q
failed_one failed (Ok a) (Ok b) f r g s = tt
failed_one failed (Ok a) (Err e) f r g s = no_answer a why.Failed (f.1 (g.0 (ap (λ (x : Refusal). Err x) s)))
failed_one failed (Err d) (Ok b) f r g s = no_answer b why.Failed (g.1 (f.0 (ap (λ (x : Refusal). Err x) r)))
failed_one failed (Err d) (Err e) f r g s = r ∙ sym s

pub failed_alike : {P L X Y : Type 0} (old old2 : OpenStore P L) (p : Result X Refusal) (q : Result Y Refusal) → old ≡ old2 → FailsWhen old.state.failed p → IfErr p (λ r. r ≡ why.Failed) → FailsWhen old2.state.failed q → IfErr q (λ r. r ≡ why.Failed) → RefuseTheSame p q
failed_alike {P} {L} old old2 p q is f r g s = failed_one old.state.failed p q f r (subst (λ (o : OpenStore P L). FailsWhen o.state.failed q) (sym is) g) s

-- ---- records that are handed over, or forced

not_written : {P L : Type 0} (g : log_device.Ghosts L) (old x : OpenStore P L) (r : Refusal) → NotWritten g old x r → ((r ≡ why.Failed) × (old.state.failed ≡ true)) ⊎ IsWant r
not_written g old x why.DiskWrite h = inr tt
not_written g old x why.Failed h = inl (refl, h.0)
not_written g old x _ h = absurd h

module _ {P L X Y : Type 0} (g : log_device.Ghosts L) where
  handed_one : (old x y : OpenStore P L) (p : Result X Refusal) (q : Result Y Refusal) → FailsWhen old.state.failed p → IfErr p (λ r. NotWritten g old x r) → FailsWhen old.state.failed q → IfErr q (λ r. NotWritten g old y r) → RefuseAlike p q
  handed_one old x y (Ok a) (Ok b) f r h s = tt
  handed_one old x y (Ok a) (Err e) f r h s = elim (not_written g old y e s) [ inl n ↦ absurd (no_answer a why.Failed (f.1 n.1)) | inr w ↦ w ]
  handed_one old x y (Err d) (Ok b) f r h s = elim (not_written g old x d r) [ inl n ↦ absurd (no_answer b why.Failed (h.1 n.1)) | inr w ↦ w ]
  handed_one old x y (Err d) (Err e) f r h s = elim (not_written g old x d r) [
    | inl n ↦ elim (not_written g old y e s) [ inl m ↦ inl (n.0 ∙ sym m.0) | inr w ↦ inr (inr w) ]
    | inr w ↦ inr (inl w)
  ]

  -- both are refused alike
  pub handed_alike : (old old2 x y : OpenStore P L) (p : Result X Refusal) (q : Result Y Refusal) → old ≡ old2 → FailsWhen old.state.failed p → IfErr p (λ r. NotWritten g old x r) → FailsWhen old2.state.failed q → IfErr q (λ r. NotWritten g old2 y r) → RefuseAlike p q
  handed_alike old old2 x y p q is f r h s =
      handed_one old x y p q f r (subst (λ (o : OpenStore P L). FailsWhen o.state.failed q) (sym is) h)
      (subst (λ (o : OpenStore P L). IfErr q (λ r. NotWritten g o y r)) (sym is) s)

-- what both logs may be left as is one
pub left_one : {L X Y : Type 0} (g : log_device.Ghosts L) (bytes others : List ℕ) (x y : L) (p : Result X Refusal) (q : Result Y Refusal) → bytes ≡ others → OnOk p (g.honest x → Only bytes (g.may_leave x)) → OnOk q (g.honest y → Only others (g.may_leave y))
    → IfOk p (λ _. IfOk q (λ _. g.honest x → g.honest y → (c d : List ℕ) → g.may_leave x c → g.may_leave y d → c ≡ d))
left_one g bytes others x y (Ok a) (Ok b) is f h = λ hx hy c d m n. f hx c m ∙ is ∙ sym (h hy d n)
left_one g bytes others x y (Ok a) (Err e) is f h = tt
left_one g bytes others x y (Err d) q is f h = tt

-- ---- pages that go out

unwritten : {P L : Type 0} (s : OpenStore P L) (page : ℕ) (r : Refusal) → WritesWhen s page (Err r)
    → ((r ≡ why.Failed) × (s.state.failed ≡ true)) ⊎ ((r ≡ why.NotForced) × (s.state.failed ≡ false) × IsUnwritten (pooled s) page × (s.state.forced < lsn_of (image_at s.state.images page))) ⊎ IsWant r
unwritten s page why.DiskWrite h = inr (inr tt)
unwritten s page why.NotForced h = inr (inl (refl, h.0, h.1.0, h.1.1))
unwritten s page why.Failed h = inl (refl, h)
unwritten s page _ h = absurd h.1

module _ {P L : Type 0} (g : page_device.Ghosts P) where
  -- what a page that was to go out says
  abbrev pub Writes : ℕ → OpenStore P L → OpenStore P L → Result Written Refusal → Type 0
  Writes page old x p = WritesWhen old page p × (x.state ≡ state_after old.state p) × (x.changed ≡ changed_after old.changed page p)
      × DeviceAfter g page (image_at old.state.images page) old.pages x.pages p

  -- an answer comes with no refusal but for a device that failed
  no_refusal : (s : OpenStore P L) (page : ℕ) (w : Written) (r : Refusal) → WritesWhen s page (Ok w) → WritesWhen s page (Err r) → IsWant r
  no_refusal s page Done r f h = elim (unwritten s page r h) [
    | inl n ↦ absurd (true≢false (sym n.1 ∙ f.0))
    | inr v ↦ elim v [ inl n ↦ (let le : lsn_of (image_at s.state.images page) ≤ s.state.forced = f.1.1 in let lt : s.state.forced < lsn_of (image_at s.state.images page) = n.3 in absurd (omega (arith, le, lt))) | inr w ↦ w ]
  ]
  no_refusal s page Nothing r f h = elim (unwritten s page r h) [
    | inl n ↦ absurd (true≢false (sym n.1 ∙ f.0))
    | inr v ↦ elim v [ inl n ↦ absurd (true≢false (sym n.2.changed ∙ f.1)) | inr w ↦ w ]
  ]

  refused_one : (s : OpenStore P L) (page : ℕ) (p q : Result Written Refusal) → WritesWhen s page p → WritesWhen s page q → RefuseAlike p q
  refused_one s page (Ok a) (Ok b) f h = tt
  refused_one s page (Ok a) (Err e) f h = no_refusal s page a e f h
  refused_one s page (Err d) (Ok b) f h = no_refusal s page b d h f
  refused_one s page (Err d) (Err e) f h = elim (unwritten s page d f) [
    | inl n ↦ elim (unwritten s page e h) [
      | inl m ↦ inl (n.0 ∙ sym m.0)
      | inr v ↦ elim v [ inl m ↦ absurd (true≢false (sym n.1 ∙ m.1)) | inr w ↦ inr (inr w) ]
    ]
    | inr u ↦ elim u [
      | inl n ↦ elim (unwritten s page e h) [
        | inl m ↦ absurd (true≢false (sym m.1 ∙ n.1))
        | inr v ↦ elim v [ inl m ↦ inl (n.0 ∙ sym m.0) | inr w ↦ inr (inr w) ]
      ]
      | inr w ↦ inr (inl w)
    ]
  ]

  wrote_one : (page : ℕ) (old x y : OpenStore P L) (a b : Written) → Writes page old x (Ok a) → Writes page old y (Ok b) → (a ≡ b) × (x.state ≡ y.state) × (x.changed ≡ y.changed)
  wrote_one page old x y Done Done f h = (refl, f.1 ∙ sym h.1, f.2 ∙ sym h.2)
  wrote_one page old x y Done Nothing f h = absurd (true≢false (sym f.0.1.0.changed ∙ h.0.1))
  wrote_one page old x y Nothing Done f h = absurd (true≢false (sym h.0.1.0.changed ∙ f.0.1))
  wrote_one page old x y Nothing Nothing f h = (refl, f.1 ∙ sym h.1, f.2 ∙ sym h.2)

  reads_one : (page : ℕ) (old x y : OpenStore P L) (a b : Written) → Writes page old x (Ok a) → Writes page old y (Ok b) → (p : ℕ) → g.seen x.pages p ≡ g.seen y.pages p
  reads_one page old x y Done Done f h = λ p. f.3.0 p ∙ sym (h.3.0 p)
  reads_one page old x y Done Nothing f h = absurd (true≢false (sym f.0.1.0.changed ∙ h.0.1))
  reads_one page old x y Nothing Done f h = absurd (true≢false (sym h.0.1.0.changed ∙ f.0.1))
  reads_one page old x y Nothing Nothing f h = λ p. ap (λ (d : P). g.seen d p) (f.3 ∙ sym h.3)

  wrote_both : (page : ℕ) (old old2 x y : OpenStore P L) (p q : Result Written Refusal) → old ≡ old2 → Writes page old x p → Writes page old2 y q → IfOk p (λ a. IfOk q (λ b. (a ≡ b) × (x.state ≡ y.state) × (x.changed ≡ y.changed)))
  wrote_both page old old2 x y (Ok a) (Ok b) is f h = wrote_one page old x y a b f (subst (λ o. Writes page o y (Ok b)) (sym is) h)
  wrote_both page old old2 x y (Ok a) (Err e) is f h = tt
  wrote_both page old old2 x y (Err d) q is f h = tt

  reads_both : (page : ℕ) (old old2 x y : OpenStore P L) (p q : Result Written Refusal) → old ≡ old2 → Writes page old x p → Writes page old2 y q → IfOk p (λ _. IfOk q (λ _. (at : ℕ) → g.seen x.pages at ≡ g.seen y.pages at))
  reads_both page old old2 x y (Ok a) (Ok b) is f h = reads_one page old x y a b f (subst (λ o. Writes page o y (Ok b)) (sym is) h)
  reads_both page old old2 x y (Ok a) (Err e) is f h = tt
  reads_both page old old2 x y (Err d) q is f h = tt

  -- both answer and leave the same
  pub wrote_alike : (page : ℕ) (old old2 x y : OpenStore P L) (p q : Result Written Refusal) → old ≡ old2
      → WritesWhen old page p → x.state ≡ state_after old.state p → x.changed ≡ changed_after old.changed page p → x.log ≡ old.log → DeviceAfter g page (image_at old.state.images page) old.pages x.pages p
      → WritesWhen old2 page q → y.state ≡ state_after old2.state q → y.changed ≡ changed_after old2.changed page q → y.log ≡ old2.log → DeviceAfter g page (image_at old2.state.images page) old2.pages y.pages q
      → IfOk p (λ a. IfOk q (λ b. (a ≡ b) × (x.state ≡ y.state) × (x.changed ≡ y.changed)))
  wrote_alike page old old2 x y p q is f1 f2 f3 log f4 h1 h2 h3 same h4 = wrote_both page old old2 x y p q is (f1, f2, f3, f4) (h1, h2, h3, h4)

  -- and both devices read the same
  pub reads_alike : (page : ℕ) (old old2 x y : OpenStore P L) (p q : Result Written Refusal) → old ≡ old2
      → WritesWhen old page p → x.state ≡ state_after old.state p → x.changed ≡ changed_after old.changed page p → x.log ≡ old.log → DeviceAfter g page (image_at old.state.images page) old.pages x.pages p
      → WritesWhen old2 page q → y.state ≡ state_after old2.state q → y.changed ≡ changed_after old2.changed page q → y.log ≡ old2.log → DeviceAfter g page (image_at old2.state.images page) old2.pages y.pages q
      → IfOk p (λ _. IfOk q (λ _. (at : ℕ) → g.seen x.pages at ≡ g.seen y.pages at))
  reads_alike page old old2 x y p q is f1 f2 f3 log f4 h1 h2 h3 same h4 = reads_both page old old2 x y p q is (f1, f2, f3, f4) (h1, h2, h3, h4)

  pub refused_alike : (page : ℕ) (old old2 : OpenStore P L) (p q : Result Written Refusal) → old ≡ old2 → WritesWhen old page p → WritesWhen old2 page q → RefuseAlike p q
  refused_alike page old old2 p q is f h = refused_one old page p q f (subst (λ o. WritesWhen o page q) (sym is) h)

-- ---- numbers of commits

pub number_alike : (old old2 x y : State) (t : Txn) (p q : Result CommitNo Refusal) → old ≡ old2 → IfOk p (λ a. IsCommitted old t a x) → IfOk q (λ b. IsCommitted old2 t b y) → IfOk p (λ a. IfOk q (λ b. a ≡ b))
number_alike old old2 x y t (Ok a) (Ok b) is f h =
    let e = f.txn ∙ sym h.txn in
    let n = f.lsn ∙ ap (λ (s : State). length s.records + 1) is ∙ sym h.lsn in
    ap (λ (txn : Txn). record { txn = txn; lsn = a.lsn }) e ∙ ap (λ (lsn : ℕ). record { txn = b.txn; lsn = lsn }) n
number_alike old old2 x y t (Ok a) (Err e) is f h = tt
number_alike old old2 x y t (Err d) q is f h = tt

-- ---- last tags, and what is shown

-- the store had failed, or it has no such sender or client
abbrev pub IsFailedOr : Refusal → Refusal → Type 0
IsFailedOr unknown r = (r ≡ why.Failed) ⊎ (r ≡ unknown)

no_want : (unknown r : Refusal) → (IsWant unknown → ⊥) → IsFailedOr unknown r → IsWant r → ⊥
no_want unknown r n (inl e) w = subst IsWant e w
no_want unknown r n (inr e) w = n (subst IsWant e w)

-- where nothing can be wanting both are refused for the same
pub the_same : {X Y : Type 0} (unknown : Refusal) (p : Result X Refusal) (q : Result Y Refusal) → (IsWant unknown → ⊥) → IfErr p (IsFailedOr unknown) → IfErr q (IsFailedOr unknown) → RefuseAlike p q → RefuseTheSame p q
the_same unknown (Ok a) (Ok b) n f h alike = tt
the_same unknown (Ok a) (Err e) n f h alike = no_want unknown e n h alike
the_same unknown (Err d) (Ok b) n f h alike = no_want unknown d n f alike
the_same unknown (Err d) (Err e) n f h alike = elim alike [
  | inl same ↦ same
  | inr w ↦ elim w [ inl v ↦ absurd (no_want unknown d n f v) | inr v ↦ absurd (no_want unknown e n h v) ]
]

abbrev entry_legal : State → Entry → Type 0
entry_legal old e = Legal (size_of old.sizes) (ledger_of old) e

pub tag_passed : (sender : ℕ) (old new : State) (a : LastTag) → IsModelStep old (Last_tag sender) (Gave_tag a.sent a.tag) new → Passes (size_of old.sizes) (ledger_of old) (Last_tag sender)
tag_passed sender old new a s = (subst (entry_legal old) s.says s.legal).0

pub client_passed : (client : ℕ) (old new : State) (a : ClientTag) → IsModelStep old (Client_tag client) (Gave_client_tag a.count a.tag) new → Passes (size_of old.sizes) (ledger_of old) (Client_tag client)
client_passed client old new a s = (subst (entry_legal old) s.says s.legal).0

pub show_passed : (old new : State) (a : Vec GroupContent Global) → IsModelStep old Show (Gave_content (map group_of a.items)) new → Passes (size_of old.sizes) (ledger_of old) Show
show_passed old new a s = (subst (entry_legal old) s.says s.legal).0

shown : (old new : State) (gs : List Group) → IsModelStep old Show (Gave_content gs) new → gs ≡ map (group_in (ledger_of old).committed) (below (size_of old.sizes).senders)
shown old new gs s = (subst (entry_legal old) s.says s.legal).1

module _ {P L : Type 0} (p : page_device.Ghosts P) (l : log_device.Ghosts L) where
  -- what shows the content of a store, and leaves another
  abbrev pub Shows : OpenStore P L → Result (Vec GroupContent Global) Refusal → OpenStore P L → Type 0
  Shows s r v = AnswersLegally p l s Show (λ groups. Gave_content (map group_of groups.items)) r v

  pub shown_alike : (s t v w : OpenStore P L) (a b : Result (Vec GroupContent Global) Refusal) → s ≡ t → Shows s a v → Shows t b w → AreHonest p l v → AreHonest p l w → IsSound s.state → IfOk a (λ x. IfOk b (λ y. map group_of x.items ≡ map group_of y.items))
  shown_alike s t v w (Ok x) (Ok y) is f g h k sound =
      let there : Shows s (Ok y) w = subst (λ o. Shows o (Ok y) w) (sym is) g in
      let a = ok_own p l s v Show (λ groups. Gave_content (map group_of groups.items)) x f h sound in
      let b = ok_own p l s w Show (λ groups. Gave_content (map group_of groups.items)) y there k sound in
      shown s.state a.0 (map group_of x.items) a.1 ∙ sym (shown s.state b.0 (map group_of y.items) b.1)
  shown_alike s t v w (Ok x) (Err e) is f g h k sound = tt
  shown_alike s t v w (Err d) b is f g h k sound = tt

-- the lists without the images
abbrev unread : State → State
unread s = record s { images = [] }

-- two stores whose pages were perhaps read
pub left_alike : {P L : Type 0} (old old2 a b : OpenStore P L) → old ≡ old2 → AreButRead old.state a.state → a.log ≡ old.log → a.replacing ≡ old.replacing
    → AreButRead old2.state b.state → b.log ≡ old2.log → b.replacing ≡ old2.replacing → LeftAlike a b
left_alike old old2 a b same la log ra lb log2 rb = record {
  lists = ap unread la ∙ ap (λ (o : OpenStore _ _). unread o.state) same ∙ sym (ap unread lb);
  log = log ∙ ap (λ (o : OpenStore _ _). o.log) same ∙ sym log2;
  replacing = ra ∙ ap (λ (o : OpenStore _ _). o.replacing) same ∙ sym rb;
}

pub left_unchanged : {P L : Type 0} (old old2 a b : OpenStore P L) → old ≡ old2 → AreButRead old.state a.state → a.log ≡ old.log → a.replacing ≡ old.replacing → a.changed ≡ old.changed
    → AreButRead old2.state b.state → b.log ≡ old2.log → b.replacing ≡ old2.replacing → b.changed ≡ old2.changed → LeftAlike a b × (a.changed ≡ b.changed)
left_unchanged old old2 a b same la log ra ca lb log2 rb cb = (left_alike old old2 a b same la log ra lb log2 rb, ca ∙ ap (λ (o : OpenStore _ _). o.changed) same ∙ sym cb)

-- or whose lists are as they were
pub left_state : {P L : Type 0} (old old2 : OpenStore P L) (a b : State) → old ≡ old2 → a ≡ old.state → b ≡ old2.state → a ≡ b
left_state old old2 a b same f g = f ∙ ap (λ (o : OpenStore _ _). o.state) same ∙ sym g

-- what is so of each that answers is so of both
pub both_show : {X Y : Type 0} (A B C : Type 0) (a : Result X Refusal) (b : Result Y Refusal) → OnOk a A → OnOk b B → (A → B → C) → OnBoth a b C
both_show A B C (Ok x) (Ok y) f g h = h f g
both_show A B C (Ok x) (Err e) f g h = tt
both_show A B C (Err d) b f g h = tt
