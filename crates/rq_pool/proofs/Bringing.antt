-- Wanted pages are brought into frames, one after the other.
use Rattle.std.proofs.Common.{◌≡◌, ◌≢◌, ℕ, ◌+◌, ◌<◌, ◌≤◌, Bool, true, false, List, length, slice_index_or, slice_set, refl, sym, ap, subst, arith, ◌∙◌, inl, inr, ⊎_elim}
use Rattle.std.proofs.lemmas.Bool.{cases_eq, true≢false}
use Rattle.std.proofs.lemmas.List.{get_or-set_same, get_or-set_other, length-set}
use Rattle.rq_model.specs.declared.refusal.Damage.TheVariants as damage
use Rattle.rq_model.specs.declared.refusal.Refusal.{Refusal}
use Rattle.rq_model.specs.declared.refusal.Refusal.TheVariants as why
use Rattle.rq_disk.specs.Device.{PageAsk}
use Rattle.rq_disk.specs.Device.PageAsk.{Writes}
use Rattle.rq_disk.specs.declared.device.PageDevice.{Ghosts}
use Rattle.rq_page.specs.Sizes.{Sizes, page_count}
use Rattle.rq_pool.specs.Fetching.{HasFailed, HasOutside, NotFetched}
use Rattle.rq_pool.specs.Fixing.{AreEven, AreHadTo, AreHeld, AreOnWay, AreSetTo, IsBrought, IsHad, IsHeldStill, NotBrought}
use Rattle.rq_pool.specs.Held.{Held, IsFixed, IsFramed, fixed_at, nothing_held, page_at}
use Rattle.rq_pool.specs.KeptUp.{IsForced, IsKeptUp, IsStill}
use Rattle.rq_pool.specs.Pooled.{Pooled, image_at, is_changed}
use Rattle.rq_pool.specs.Want.{AreFramed, AreOfStore, CannotBeHad, NoneFixed, NotFixed, StayFixed, among, distinct, framed_in, missing, spare_for}
use Rattle.rq_pool.proofs.Fetched.{failed_then}
use Rattle.rq_pool.proofs.Holding.{framed_then, stay_first, stay_on, stay_set, still_kept}
use Rattle.rq_pool.proofs.KeptUp.{kept_still, kept_then}
use Rattle.rq_pool.proofs.Wants.{among_at, among_one, framed_from, framed_here, from_distinct, lacks_none, lacks_one, none_counts, same_counts, set_here, stands_to, to_distinct, unframed, way_even}

module _ {P : Type 0} (g : Ghosts P) (forced : ℕ) where
  -- the device is the same since it failed
  failed_on : {ask : PageAsk} (mid old new : P) → new ≡ mid → HasFailed g ask old mid → HasFailed g ask old new
  failed_on {ask} mid old new same f = subst (λ (d : P). HasFailed g ask old d) (sym same) f

  -- why a page was not brought, where it was not read
  pub not_brought : (n : ℕ) (e : Refusal) (old mid new : Pooled P) → (IsFramed old.frames n → ⊥) → g.faults mid.device ≡ g.faults old.device → NotFetched g n e mid.device new.device → NotBrought g forced n e old new
  not_brought n why.DiskRead old mid new outside same failed = (outside, failed_then g mid.device old.device new.device same failed)
  not_brought n (why.Damaged (damage.Page m)) old mid new outside same lied = (outside, lied.0, lied.1, lied.2 ∙ same)
  not_brought n _ old mid new outside same not = absurd not

  -- or where another was not written out for it
  pub not_made_way : (n : ℕ) (e : Refusal) (old new : Pooled P) → (IsFramed old.frames n → ⊥) → (e ≡ why.DiskWrite) × ((other : ℕ) × (image : List ℕ) × IsForced g forced new other image × HasFailed g (Writes other image) old.device new.device) → NotBrought g forced n e old new
  not_made_way n e old new outside f = subst (λ (r : Refusal). NotBrought g forced n r old new) (sym f.0) (outside, f.1.0, f.1.1, f.1.2, f.1.3)

  -- it stood in no frame
  not_framed : (n : ℕ) (e : Refusal) (old new : Pooled P) → NotBrought g forced n e old new → IsFramed old.frames n → ⊥
  not_framed n why.PoolFull old new full = full.0.outside
  not_framed n why.DiskRead old new fails = fails.0
  not_framed n why.DiskWrite old new fails = fails.0
  not_framed n (why.Damaged (damage.Page m)) old new lied = lied.0
  not_framed n _ old new not = absurd not

  -- nothing happened yet
  pub way_first : (old : Pooled P) (ps : List ℕ) → AreOnWay g forced old old ps
  way_first old ps = record {
    count = refl;
    kept = kept_still g forced old old refl refl refl refl;
    stay = stay_first ps old.frames;
    others = λ p _. refl;
  }

  pub had_first : (old : Pooled P) (ps : List ℕ) → AreHeld ps old.frames → AreHadTo g forced old old ps 0
  had_first old ps held = record {
    way = way_first old ps;
    even = refl;
    held = held;
    had = λ j none. absurd (omega (arith, none));
    stand = λ q _ f. f;
    faults = refl;
    stood = λ _. refl;
  }

  module _ (old mid new : Pooled P) (ps : List ℕ) (k : ℕ) (so_far : AreHadTo g forced old mid ps k) (lt : k < length ps) where
    abbrev pub n : ℕ
    n = slice_index_or ps k 0

    one : among ps n ≡ true
    one = among_at ps k lt

    -- a call was made for the next one, and frames are as they were
    pub way_on : new.frames ≡ mid.frames → ((p : ℕ) → p ≢ n → image_at new.images p ≡ image_at mid.images p) → IsKeptUp g forced mid new → AreOnWay g forced old new ps
    way_on frames others kept = record {
      count = ap length frames ∙ so_far.way.count;
      kept = kept_then g forced old mid new so_far.way.kept kept;
      stay = subst (StayFixed ps old.frames) (sym frames) so_far.way.stay;
      others = λ p away. others p (λ (is : p ≡ n). true≢false (sym one ∙ ap (among ps) (sym is) ∙ away)) ∙ so_far.way.others p away;
    }

    -- the next one stood in a frame
    had_there : IsFramed mid.frames n → new ≡ mid → AreHadTo g forced old new ps (k + 1)
    had_there framed same = subst (λ (s : Pooled P). AreHadTo g forced old s ps (k + 1)) (sym same) (record {
      way = so_far.way;
      even = so_far.even;
      held = so_far.held;
      had = λ j low. elim (cases_eq j k) [
        | inl last ↦ ap (λ (m : ℕ). framed_in mid.frames (slice_index_or ps m 0)) last ∙ framed_here mid.frames framed.at n framed.within framed.is
        | inr earlier ↦ so_far.had j (omega (arith, low, earlier))
      ];
      stand = so_far.stand;
      faults = so_far.faults;
      stood = so_far.stood;
    })

    -- or it took the place of another
    had_brought : IsBrought mid.images forced mid.frames n new.frames → ((p : ℕ) → p ≢ n → image_at new.images p ≡ image_at mid.images p) → IsKeptUp g forced mid new → g.faults new.device ≡ g.faults mid.device → AreHadTo g forced old new ps (k + 1)
    had_brought f others kept faults = record {
      way = record {
        count = ap length f.now ∙ length-set mid.frames f.at seat ∙ so_far.way.count;
        kept = kept_then g forced old mid new so_far.way.kept kept;
        stay = stay_on ps old.frames mid.frames new.frames so_far.way.stay (subst (StayFixed ps mid.frames) (sym f.now) (stay_set ps mid.frames f.at n true f.loose.within one (inr f.loose.free)));
        others = λ p away. others p (λ (is : p ≡ n). true≢false (sym one ∙ ap (among ps) (sym is) ∙ away)) ∙ so_far.way.others p away;
      };
      even =
          let two = way_even mid.images forced ps mid.frames f.at n true f.loose.within one f.outside f.loose gone_away in
          let x : missing new.frames ps ≡ missing now ps = ap (λ (l : List Held). missing l ps) f.now in
          let y : spare_for new.images forced ps new.frames ≡ spare_for mid.images forced ps now =
          same_counts mid.images new.images forced ps new.frames (λ q away. others q (λ (is : q ≡ n). true≢false (sym one ∙ ap (among ps) (sym is) ∙ away))) ∙ ap (spare_for mid.images forced ps) f.now in
          let e : AreEven old forced ps mid = so_far.even in
          let less = two.0 in
          let fewer = two.1 in
          omega (arith, x, y, e, less, fewer);
      held = λ i within wanted. elim (cases_eq i f.at) [
        | inl here ↦ ap (fixed_at new.frames) here ∙ ap (λ (l : List Held). fixed_at l f.at) f.now ∙ ap (λ (h : Held). h.fixed) (get_or-set_same mid.frames f.at seat nothing_held f.loose.within)
        | inr other ↦
            let same : slice_index_or new.frames i nothing_held ≡ slice_index_or mid.frames i nothing_held = ap (λ (l : List Held). slice_index_or l i nothing_held) f.now ∙ get_or-set_other mid.frames f.at i seat nothing_held other in
            let below : i < length mid.frames = rw (← length-set mid.frames f.at seat) (subst (λ (l : List Held). i < length l) f.now within) in
            ap (λ (h : Held). h.fixed) same ∙ so_far.held i below (sym (ap (λ (h : Held). among ps h.page) same) ∙ wanted)
      ];
      had = λ j low. elim (cases_eq j k) [
        | inl last ↦ ap (λ (m : ℕ). framed_in new.frames (slice_index_or ps m 0)) last ∙ framed_n
        | inr earlier ↦
            let before : j < k = omega (arith, low, earlier) in
            let t = framed_from mid.frames (slice_index_or ps j 0) (so_far.had j before) in
            let s = stays (slice_index_or ps j 0) (among_at ps j (omega (arith, before, lt))) t in
            framed_here new.frames s.at (slice_index_or ps j 0) s.within s.is
      ];
      stand = λ q wanted stood. stays q wanted (so_far.stand q wanted stood);
      faults = faults ∙ so_far.faults;
      stood = λ all. absurd (f.outside (so_far.stand n one (all n one)));
    } where
      seat : Held
      seat = record { page = n; fixed = true }

      now : List Held
      now = slice_set mid.frames f.at seat

      -- the page that gave way is none of them
      gone_away : among ps (page_at mid.frames f.at) ≡ false
      gone_away = by (among ps (page_at mid.frames f.at)) refl where
        by : (w : Bool) → among ps (page_at mid.frames f.at) ≡ w → among ps (page_at mid.frames f.at) ≡ false
        by false e = e
        by true e = absurd (true≢false (sym (so_far.held f.at f.loose.within e) ∙ f.loose.free))

      framed_n : framed_in new.frames n ≡ true
      framed_n = ap (λ (l : List Held). framed_in l n) f.now ∙ framed_here now f.at n (rw (length-set mid.frames f.at seat) f.loose.within) (set_here mid.frames f.at seat f.loose.within)

      stays : (q : ℕ) → among ps q ≡ true → IsFramed mid.frames q → IsFramed new.frames q
      stays q wanted t =
          subst (λ (l : List Held). IsFramed l q) (sym f.now) (stands_to mid.frames f.at seat q f.loose.within (λ (is : q ≡ page_at mid.frames f.at). true≢false (sym wanted ∙ ap (among ps) is ∙ gone_away)) t)

    pub had_next : IsHad forced mid n new → ((p : ℕ) → p ≢ n → image_at new.images p ≡ image_at mid.images p) → IsKeptUp g forced mid new → g.faults new.device ≡ g.faults mid.device → AreHadTo g forced old new ps (k + 1)
    had_next had others kept faults = ⊎_elim (λ (t : IsFramed mid.frames n × (new ≡ mid)). had_there t.0 t.1) (λ (f : IsBrought mid.images forced mid.frames n new.frames). had_brought f others kept faults) had

    -- the next one stood in no frame from the first
    abbrev is_outside : AreOfStore old.sizes ps → (IsFramed mid.frames n → ⊥) → HasOutside old
    is_outside of_store outside = record { page = n; behind = (of_store k lt).0; within = (of_store k lt).1; outside = λ stood. outside (so_far.stand n one stood) }

    -- why they cannot be fixed, where the next one cannot be brought
    pub had_not : (e : Refusal) → AreOfStore old.sizes ps → NotBrought g forced n e mid new → NotFixed g forced ps e old new
    had_not why.PoolFull of_store full =
        let none : spare_for mid.images forced ps mid.frames ≡ 0 = none_counts mid.images forced ps mid.frames full.0.none in
        let some : 1 ≤ missing mid.frames ps = lacks_one mid.frames n (distinct ps) (to_distinct ps n one) (unframed mid.frames n full.0.outside) in
        let even : AreEven old forced ps mid = so_far.even in
        (omega (arith, none, some, even), full.1 ∙ so_far.faults)
    had_not why.DiskRead of_store fails = (is_outside of_store fails.0, one, failed_then g mid.device old.device new.device so_far.faults fails.1)
    had_not why.DiskWrite of_store fails = (fails.1, fails.2, fails.3, failed_then g mid.device old.device new.device so_far.faults fails.4, is_outside of_store fails.0, one)
    had_not (why.Damaged (damage.Page m)) of_store lied = (ap (among ps) lied.1 ∙ one, lied.2, lied.3 ∙ so_far.faults)
    had_not _ of_store not = absurd not

    -- and one of them stood in no frame
    pub had_outside : (e : Refusal) → NotBrought g forced n e mid new → AreFramed old.frames ps → ⊥
    had_outside e not all = not_framed n e mid new not (so_far.stand n one (all n one))

  -- all of them are had
  pub had_framed : (old new : Pooled P) (ps : List ℕ) → AreHadTo g forced old new ps (length ps) → (q : ℕ) → among ps q ≡ true → IsFramed new.frames q
  had_framed old new ps all q wanted =
      let one = among_one ps q wanted in
      framed_from new.frames q (ap (framed_in new.frames) (sym one.is) ∙ all.had one.at one.within)

  pub had_fixed : (old new : Pooled P) (ps : List ℕ) → AreHadTo g forced old new ps (length ps) → (q : ℕ) → among ps q ≡ true → IsFixed new.frames q
  had_fixed old new ps all q wanted =
      let f = had_framed old new ps all q wanted in
      record { at = f.at; within = f.within; is = f.is; fixed = all.held f.at f.within (ap (among ps) f.is ∙ wanted) }

  pub had_all : (old new : Pooled P) (ps : List ℕ) → AreHadTo g forced old new ps (length ps) → CannotBeHad old forced ps → ⊥
  had_all old new ps all cannot =
      let none : missing new.frames ps ≡ 0 = lacks_none new.frames (distinct ps) (λ q wanted. let f = had_framed old new ps all q (from_distinct ps q wanted) in framed_here new.frames f.at q f.within f.is) in
      let e : AreEven old forced ps new = all.even in
      omega (arith, none, e, cannot)

  -- ---- behind those that were held first

  module _ (old mid : Pooled P) (ps : List ℕ) (held : AreSetTo true old mid ps (length ps)) where
    pub cannot_then : CannotBeHad old forced ps → CannotBeHad mid forced ps
    cannot_then c = let e : AreEven old forced ps mid = held.even forced in omega (arith, e, c)

    cannot_before : CannotBeHad mid forced ps → CannotBeHad old forced ps
    cannot_before c = let e : AreEven old forced ps mid = held.even forced in omega (arith, e, c)

    abbrev outside_before : HasOutside mid → HasOutside old
    outside_before out = record {
      page = out.page;
      behind = out.behind;
      within = subst (λ (z : Sizes). out.page < page_count z) held.still.sizes out.within;
      outside = λ stood. out.outside (framed_then true old mid ps (length ps) out.page held stood);
    }

    -- why they were not fixed, by the pool as it was before
    pub not_fixed : (e : Refusal) (new : Pooled P) → NotFixed g forced ps e mid new → NotFixed g forced ps e old new
    not_fixed why.PoolFull new full = (cannot_before full.0, full.1 ∙ ap g.faults held.still.device)
    not_fixed why.DiskRead new fails = (outside_before fails.0, fails.1, failed_then g mid.device old.device new.device (ap g.faults held.still.device) fails.2)
    not_fixed why.DiskWrite new fails = (fails.0, fails.1, fails.2, failed_then g mid.device old.device new.device (ap g.faults held.still.device) fails.3, outside_before fails.4, fails.5)
    not_fixed (why.Damaged (damage.Page n)) new lied = (lied.0, lied.1, lied.2 ∙ ap g.faults held.still.device)
    not_fixed _ new not = absurd not

    pub framed_held : AreFramed old.frames ps → AreFramed mid.frames ps
    framed_held all q wanted = framed_then true old mid ps (length ps) q held (all q wanted)

    -- where all of them stand in frames, that is all
    pub stood_still : (new : Pooled P) → new ≡ mid → IsHeldStill old new
    stood_still new same = subst (λ (s : Pooled P). IsHeldStill old s) (sym same) (record { still = held.still; same = held.same })

    pub way_before : (new : Pooled P) → AreOnWay g forced mid new ps → AreOnWay g forced old new ps
    way_before new way = record {
      count = way.count ∙ held.count;
      kept = kept_then g forced old mid new (still_kept g forced old mid held.still) way.kept;
      stay = stay_on ps old.frames mid.frames new.frames held.stay way.stay;
      others = λ p away. way.others p away ∙ ap (λ (l : List (List ℕ)). image_at l p) held.still.images;
    }

  -- those that were fixed before are none of them, and keep their images
  pub others_kept : (old new : Pooled P) (ps : List ℕ) → NoneFixed ps old.frames → AreOnWay g forced old new ps → (p : ℕ) → IsFixed old.frames p → image_at new.images p ≡ image_at old.images p
  others_kept old new ps none way p fixed = way.others p (by (among ps p) refl) where
    by : (w : Bool) → among ps p ≡ w → among ps p ≡ false
    by false e = e
    by true e = absurd (none p e fixed)

  -- ---- and they are let go of again

  module _ (old mid new : Pooled P) (ps : List ℕ) (still : IsStill mid new) where
    pub kept_let : AreOnWay g forced old mid ps → IsKeptUp g forced old new
    kept_let way = kept_then g forced old mid new way.kept (still_kept g forced mid new still)

    pub stay_let : AreOnWay g forced old mid ps → StayFixed ps mid.frames new.frames → StayFixed ps old.frames new.frames
    stay_let way stay = stay_on ps old.frames mid.frames new.frames way.stay stay

    forced_let : (p : ℕ) (image : List ℕ) → IsForced g forced mid p image → IsForced g forced new p image
    forced_let p image f = record {
      changed = ap (λ (l : List Bool). is_changed l p) still.changed ∙ f.changed;
      is = f.is ∙ ap (λ (l : List (List ℕ)). image_at l p) (sym still.images);
      lsn = f.lsn;
    }

    pub not_let : (e : Refusal) → NotFixed g forced ps e old mid → NotFixed g forced ps e old new
    not_let why.PoolFull full = (full.0, ap g.faults still.device ∙ full.1)
    not_let why.DiskRead fails = (fails.0, fails.1, failed_on mid.device old.device new.device still.device fails.2)
    not_let why.DiskWrite fails = (fails.0, fails.1, forced_let fails.0 fails.1 fails.2, failed_on mid.device old.device new.device still.device fails.3, fails.4, fails.5)
    not_let (why.Damaged (damage.Page n)) lied = (lied.0, subst (λ (d : P). g.honest d → ⊥) (sym still.device) lied.1, ap g.faults still.device ∙ lied.2)
    not_let _ not = absurd not
