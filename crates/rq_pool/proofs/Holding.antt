-- Pages are fixed in their frames, or let go, one after the other.
use Rattle.std.proofs.Common.{◌≡◌, ◌≢◌, ◌⊎◌, ℕ, ◌+◌, ◌<◌, Bool, true, false, List, length, slice_index_or, slice_set, refl, sym, ap, subst, arith, ◌∙◌, inl, inr, ⊎_elim}
use Rattle.std.proofs.lemmas.Bool.{cases_eq, true≢false}
use Rattle.std.proofs.lemmas.List.{get_or-set_same, get_or-set_other, length-set}
use Rattle.rq_disk.specs.declared.device.PageDevice.{Ghosts}
use Rattle.rq_pool.specs.Fixing.{AreEven, AreHeld, AreSetTo, IsSetIn}
use Rattle.rq_pool.specs.Held.{Held, IsFramed, IsSetAt, fixed_at, nothing_held, page_at}
use Rattle.rq_pool.specs.KeptUp.{IsKeptUp, IsStill}
use Rattle.rq_pool.specs.Pooled.{Pooled}
use Rattle.rq_pool.specs.Want.{NoneFixed, StayFixed, among, missing, spare_for}
use Rattle.rq_pool.proofs.KeptUp.{kept_still}
use Rattle.rq_pool.proofs.Wants.{among_at, among_one, set_here, set_page, stood_even}

pub still_first : {P : Type 0} (old : Pooled P) → IsStill old old
still_first old = record { device = refl; sizes = refl; images = refl; changed = refl; apart = refl }

pub still_on : {P : Type 0} (old mid new : Pooled P) → IsStill old mid → IsStill mid new → IsStill old new
still_on old mid new a b = record { device = b.device ∙ a.device; sizes = b.sizes ∙ a.sizes; images = b.images ∙ a.images; changed = b.changed ∙ a.changed; apart = b.apart ∙ a.apart }

-- nothing but frames changed, so pages are kept up
pub still_kept : {P : Type 0} (g : Ghosts P) (forced : ℕ) (old new : Pooled P) → IsStill old new → IsKeptUp g forced old new
still_kept g forced old new still = kept_still g forced old new still.device still.sizes still.images still.changed

pub stay_first : (ps : List ℕ) (frames : List Held) → StayFixed ps frames frames
stay_first ps frames = record { to = λ q _ f. f; from = λ q _ f. f }

pub stay_on : (ps : List ℕ) (old mid new : List Held) → StayFixed ps old mid → StayFixed ps mid new → StayFixed ps old new
stay_on ps old mid new a b = record { to = λ q other f. b.to q other (a.to q other f); from = λ q other f. a.from q other (b.from q other f) }

-- a frame has one of these pages then, and had it before, or one that was not fixed
pub stay_set : (ps : List ℕ) (frames : List Held) (at n : ℕ) (b : Bool) → at < length frames → among ps n ≡ true → ((page_at frames at ≡ n) ⊎ (fixed_at frames at ≡ false)) → StayFixed ps frames (slice_set frames at (record { page = n; fixed = b }))
stay_set ps frames at n b lt one before = record {
  to = λ q away f. elim (cases_eq f.at at) [
    | inl here ↦ ⊎_elim (λ is. absurd (true≢false (sym one ∙ ap (among ps) (sym is ∙ ap (page_at frames) (sym here) ∙ f.is) ∙ away)))
        (λ free. absurd (true≢false (sym f.fixed ∙ ap (fixed_at frames) here ∙ free))) before
    | inr other ↦ record {
      at = f.at;
      within = rw (length-set frames at seat) f.within;
      is = ap (λ (x : Held). x.page) (same f.at other) ∙ f.is;
      fixed = ap (λ (x : Held). x.fixed) (same f.at other) ∙ f.fixed;
    }
  ];
  from = λ q away f. elim (cases_eq f.at at) [
    | inl here ↦
        let is : n ≡ q = sym (set_here frames at seat lt) ∙ ap (page_at (slice_set frames at seat)) (sym here) ∙ f.is in
        absurd (true≢false (sym one ∙ ap (among ps) is ∙ away))
    | inr other ↦ record {
      at = f.at;
      within = rw (← length-set frames at seat) f.within;
      is = sym (ap (λ (x : Held). x.page) (same f.at other)) ∙ f.is;
      fixed = sym (ap (λ (x : Held). x.fixed) (same f.at other)) ∙ f.fixed;
    }
  ];
} where
  seat : Held
  seat = record { page = n; fixed = b }

  same : (j : ℕ) → j ≢ at → slice_index_or (slice_set frames at seat) j nothing_held ≡ slice_index_or frames j nothing_held
  same j ne = get_or-set_other frames at j seat nothing_held ne

-- ---- all of them

pub set_first : {P : Type 0} (b : Bool) (old : Pooled P) (ps : List ℕ) → AreSetTo b old old ps 0
set_first b old ps = record {
  count = refl;
  same = λ i. refl;
  each = λ i j lt none is. absurd (omega (arith, none));
  still = still_first old;
  stay = stay_first ps old.frames;
  even = λ forced. refl;
}

module _ {P : Type 0} (b : Bool) (old mid new : Pooled P) (ps : List ℕ) (k : ℕ) (so_far : AreSetTo b old mid ps k) (lt : k < length ps) (still : IsStill mid new) where
  abbrev pub n : ℕ
  n = slice_index_or ps k 0

  -- the next one stands in a frame
  next_there : IsSetAt b mid.frames n new.frames → AreSetTo b old new ps (k + 1)
  next_there set = record {
    count = ap length set.now ∙ length-set mid.frames set.at seat ∙ so_far.count;
    same = λ i. page i ∙ so_far.same i;
    each = λ i j within low is. elim (cases_eq i set.at) [
      | inl here ↦ ap (fixed_at new.frames) here ∙ ap (λ (l : List Held). fixed_at l set.at) set.now ∙ ap (λ (x : Held). x.fixed) (get_or-set_same mid.frames set.at seat nothing_held set.within)
      | inr other ↦
          let below : i < length mid.frames = rw (← length-set mid.frames set.at seat) (subst (λ (l : List Held). i < length l) set.now within) in
          let was : page_at mid.frames i ≡ slice_index_or ps j 0 = sym (page i) ∙ is in
          elim (cases_eq j k) [
            | inl last ↦ absurd (other (set.only i below (was ∙ ap (λ (m : ℕ). slice_index_or ps m 0) last)))
            | inr earlier ↦
                ap (λ (l : List Held). fixed_at l i) set.now ∙ ap (λ (x : Held). x.fixed) (get_or-set_other mid.frames set.at i seat nothing_held other) ∙ so_far.each i j below (omega (arith, low, earlier)) was
          ]
    ];
    still = still_on old mid new so_far.still still;
    stay = stay_on ps old.frames mid.frames new.frames so_far.stay (subst (StayFixed ps mid.frames) (sym set.now) (stay_set ps mid.frames set.at n b set.within one (inl set.is)));
    even = λ forced.
        let two = stood_even mid.images forced ps mid.frames set.at n b set.within one set.is in
        let x : missing new.frames ps ≡ missing mid.frames ps = ap (λ (l : List Held). missing l ps) set.now ∙ two.0 in
        let y : spare_for new.images forced ps new.frames ≡ spare_for mid.images forced ps mid.frames =
        ap (λ (l : List (List ℕ)). spare_for l forced ps new.frames) still.images ∙ ap (spare_for mid.images forced ps) set.now ∙ two.1 in
        let e : AreEven old forced ps mid = so_far.even forced in
        omega (arith, x, y, e);
  } where
    seat : Held
    seat = record { page = n; fixed = b }

    one : among ps n ≡ true
    one = among_at ps k lt

    page : (i : ℕ) → page_at new.frames i ≡ page_at mid.frames i
    page i = elim (cases_eq i set.at) [
      | inl here ↦ ap (page_at new.frames) here ∙ ap (λ (l : List Held). page_at l set.at) set.now ∙ set_here mid.frames set.at seat set.within ∙ sym set.is ∙ ap (page_at mid.frames) (sym here)
      | inr other ↦ ap (λ (l : List Held). page_at l i) set.now ∙ set_page mid.frames set.at seat i other
    ]

  -- or in none
  next_nowhere : (IsFramed mid.frames n → ⊥) → new.frames ≡ mid.frames → AreSetTo b old new ps (k + 1)
  next_nowhere out frames = record {
    count = ap length frames ∙ so_far.count;
    same = λ i. ap (λ (l : List Held). page_at l i) frames ∙ so_far.same i;
    each = λ i j within low is.
        let below : i < length mid.frames = subst (λ (l : List Held). i < length l) frames within in
        let was : page_at mid.frames i ≡ slice_index_or ps j 0 = ap (λ (l : List Held). page_at l i) (sym frames) ∙ is in
        elim (cases_eq j k) [
          | inl last ↦ absurd (out (record { at = i; within = below; is = was ∙ ap (λ (m : ℕ). slice_index_or ps m 0) last }))
          | inr earlier ↦ ap (λ (l : List Held). fixed_at l i) frames ∙ so_far.each i j below (omega (arith, low, earlier)) was
        ];
    still = still_on old mid new so_far.still still;
    stay = subst (StayFixed ps old.frames) (sym frames) so_far.stay;
    even = λ forced.
        let x : missing new.frames ps ≡ missing mid.frames ps = ap (λ (l : List Held). missing l ps) frames in
        let y : spare_for new.images forced ps new.frames ≡ spare_for mid.images forced ps mid.frames =
        ap (λ (l : List (List ℕ)). spare_for l forced ps new.frames) still.images ∙ ap (spare_for mid.images forced ps) frames in
        let e : AreEven old forced ps mid = so_far.even forced in
        omega (arith, x, y, e);
  }

  pub set_next : IsSetIn b mid.frames n new.frames → AreSetTo b old new ps (k + 1)
  set_next set = ⊎_elim next_there (λ (t : (IsFramed mid.frames n → ⊥) × (new.frames ≡ mid.frames)). next_nowhere t.0 t.1) set

-- all are let go
pub let_last : {P : Type 0} (old new : Pooled P) (ps : List ℕ) → AreSetTo false old new ps (length ps) → NoneFixed ps new.frames
let_last old new ps all q wanted f =
    let one = among_one ps q wanted in
    true≢false (sym f.fixed ∙ all.each f.at one.at f.within one.within (f.is ∙ sym one.is))

-- all that stand in frames are fixed there
pub held_last : {P : Type 0} (old new : Pooled P) (ps : List ℕ) → AreSetTo true old new ps (length ps) → AreHeld ps new.frames
held_last old new ps all i within e =
    let one = among_one ps (page_at new.frames i) e in
    all.each i one.at within one.within (sym one.is)

-- they stand where they stood
pub framed_then : {P : Type 0} (b : Bool) (old new : Pooled P) (ps : List ℕ) (k : ℕ) (q : ℕ) → AreSetTo b old new ps k → IsFramed old.frames q → IsFramed new.frames q
framed_then b old new ps k q set f = record { at = f.at; within = rw set.count f.within; is = set.same f.at ∙ f.is }
