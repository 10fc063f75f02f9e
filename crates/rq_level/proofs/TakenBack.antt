-- What takes an operation of the level of chains back leaves what others did on the other end.
use Rattle.std.proofs.Common.{◌≡◌, ℕ, zero, suc, ◌+◌, ◌^◌, ◌<◌, ◌++◌, List, [], length, Bool, true, false, Option, None, Some, Ok, refl, sym, ap, ◌∙◌, subst, arith}
use Rattle.std.proofs.lemmas.Bool.{false≢true}
use Rattle.std.specs.List.{AllByRecursion}
use Rattle.std.proofs.lemmas.List.{length-map}
use Rattle.std.proofs.lemmas.List.Elements.{recursion_from_All}
use Rattle.std.proofs.lemmas.Option.{cond_some}
use Rattle.byteorder.specs.Endian.{big_bytes, big_from, big_number}
use Rattle.byteorder.specs.Numbers.{big_from-append, big_from-lt}
use Rattle.rq_bytes.specs.Number.{number}
use Rattle.rq_bytes.proofs.Strings.{AreBytes-number}
use Rattle.rq_model.specs.declared.record.Deed.{Deed}
use Rattle.rq_model.specs.declared.record.Deed.TheVariants.{Append, UnlinkHead, Close as Close_deed, Mark}
use Rattle.rq_model.specs.Deeds.{deed_by, spelled_deed}
use Rattle.rq_page.specs.declared.cell.Cell.{Cell}
use Rattle.rq_page.specs.Sizes.{Sizes, sender_count}
use Rattle.rq_page.specs.Slots.{Free, Used}
use Rattle.rq_views.specs.Chain.{View, message}
use Rattle.rq_views.specs.Groups.{TellsView}
use Rattle.rq_views.specs.Inverses.{is_of_receiver}
use Rattle.rq_views.specs.Items.{layout_of}
use Rattle.rq_views.specs.Log.{HasBefores, Slots, Write}
use Rattle.rq_views.specs.Plans.{IsPlan, ShowsAt, Turn, deed_sender, turn_sender, with_turn}
use Rattle.rq_views.specs.Plans.Turn.{Did, Undid}
use Rattle.rq_views.proofs.ChainLaws.{others}
use Rattle.rq_views.proofs.Inverses.{inverses_leave}
use Rattle.rq_views.proofs.Tags.{plan_spares_tag, tag_stays}
use Rattle.rq_views.proofs.Views.{own_law, plan_spares}
use Rattle.rq_level.specs.ChainPlans.{Beside, Plans, PlansFor, Undoes}
use Rattle.rq_level.specs.Given.{GivenHolds, HoldsBytes, given_at}
use Rattle.rq_level.specs.LevelState.{LevelState, IsLowest}
use Rattle.rq_level.specs.Meaning.{chain_meaning}
use Rattle.rq_level.specs.Ops.{Doing}
use Rattle.rq_level.specs.Ops.Doing.{Send, Receive, Close}
use Rattle.rq_level.specs.TakenBack.{AreOverHeld, LeadsBack, LeavesAt, LeavesOthers, ShowsOf, newest_first}
use Rattle.rq_level.specs.declared.slots.Given.{Given}
use Rattle.rq_level.specs.declared.writes.Plan.{Plan}
use Rattle.rq_level.proofs.Based.{lowest_cell}
use Rattle.rq_level.proofs.Fits.{received_fits, returned_fits, sent_fits, unsent_fits}
use Rattle.rq_level.proofs.Links.{Names, received, returned, sent, unsent}

pub same_deed : (c d : Deed) → Some c ≡ Some d → c ≡ d
same_deed c d e = cc

-- ---- a deed of chains is of a sender

-- a number that its four bytes tell fits them
fits_bytes : (n : ℕ) (rest : List ℕ) → big_number 4 (big_bytes 4 n ++ rest) ≡ n → n < 2 ^ 32
unfolding number
fits_bytes n rest e =
    let low : big_from 0 4 (big_bytes 4 n) < 256 ^ 4 = big_from-lt 0 4 (big_bytes 4 n) (AreBytes-number 4 n) in
    let same = big_from-append 4 (big_bytes 4 n) rest (omega arith) in
    omega (arith, low, same, e)

-- the deed is of a sender of the store, whose number stands in four bytes
abbrev IsOfSender : Sizes → Deed → Type 0
IsOfSender z d = (deed_sender d < 2 ^ 32) × (deed_sender d < sender_count z)

-- the sender of a deed that its own bytes tell fits four of them
reads_itself : (d : Deed) → deed_by 1 (spelled_deed d) ≡ Some d → deed_sender d < 2 ^ 32
reads_itself (Append s n tag previous body) h = fits_bytes s (big_bytes 8 n ++ (big_bytes 8 tag ++ (big_bytes 8 previous ++ body))) (ap deed_sender (cond_some _ _ _ h).1)
reads_itself (UnlinkHead s n tag body) h = fits_bytes s (big_bytes 8 n ++ (big_bytes 8 tag ++ body)) (ap deed_sender (cond_some _ _ _ h).1)
reads_itself (Close_deed s) h = fits_bytes s [] (ap deed_sender (same_deed (Close_deed (big_number 4 (big_bytes 4 s))) (Close_deed s) h))
reads_itself (Mark c tag previous) h = cc

reads_sender : (d : Deed) (bytes : List ℕ) → bytes ≡ spelled_deed d → deed_by 1 bytes ≡ Some d → deed_sender d < 2 ^ 32
reads_sender d bytes spelled reads = reads_itself d (subst (λ b. deed_by 1 b ≡ Some d) spelled reads)

of_sender : (z : Sizes) (k : LevelState) (given : List Given) (latched : List ℕ) (p : Plan) (after : LevelState) (o : Option Doing) (d : Deed) → Plans (Some z) o k given latched (Ok p) after → deed_by 1 p.deed ≡ Some d → IsOfSender z d
of_sender z k given latched p after (Some (Send s tag body)) d h told = subst (IsOfSender z) (same_deed _ d (sym h.reads ∙ told)) (reads_sender _ p.deed h.deed h.reads, h.can.below)
of_sender z k given latched p after (Some (Receive s)) d h told = subst (IsOfSender z) (same_deed _ d (sym h.reads ∙ told)) (reads_sender _ p.deed h.deed h.reads, h.can.below)
of_sender z k given latched p after (Some (Close s)) d h told = subst (IsOfSender z) (same_deed _ d (sym h.reads ∙ told)) (reads_sender _ p.deed h.deed h.reads, h.marked.can.below)
of_sender z k given latched p after None d h told = absurd h

-- ---- its plan, and that of what takes it back

-- nothing is sent to a closed group
abbrev IsOpenFor : Deed → View → Type 0
IsOpenFor d v = is_of_receiver (Did d) ≡ false → v.closed ≡ false

-- no cell stands at 0
used_at : (z : Sizes) (given : List Given) (a : ℕ) (c : Cell) → GivenHolds z given a (Used c) → 0 < a
used_at z given zero c h = absurd (by (given_at 0 given) h) where
  by : (o : Option (List ℕ)) → HoldsBytes z 0 (Used c) o → ⊥
  by None h = h
  by (Some bytes) h = let no : Free ≡ Used c = h in cc
used_at z given (suc a) c h = omega arith

names : (z : Sizes) (given : List Given) (a : ℕ) (o : Option Cell) → Beside z given a o → Names a o
names z given a None b = b
names z given a (Some c) b = used_at z given a c b

taken_at : (z : Sizes) (k : LevelState) (latched : List ℕ) (a : ℕ) → IsLowest z k latched a → 0 < a
taken_at z k latched a l = let above = (lowest_cell z k latched a l).above in omega (arith, above)

module _ (z : Sizes) (k : LevelState) (given : List Given) (latched : List ℕ) (p : Plan) (after : LevelState) (q : Slots) (v : View) (over : AreOverHeld q (newest_first z p)) where
  each : (ws : List Write) → newest_first z p ≡ ws → AllByRecursion (λ (w : Write). w.before ≡ q w.at) ws
  each ws e = recursion_from_All (λ (w : Write). w.before ≡ q w.at) ws (subst (AreOverHeld q) e over)

  fit : (ws : List Write) → newest_first z p ≡ ws → HasBefores ws q → HasBefores (newest_first z p) q
  fit ws e h = subst (λ ws. HasBefores ws q) (sym e) h

  abbrev HasPlan : Deed → Type 0
  HasPlan d = ShowsAt (layout_of z) q (deed_sender d) v → IsPlan (layout_of z) (Did d) (newest_first z p) × HasBefores (newest_first z p) q × (IsOpenFor d v → TellsView d v)

  -- the plan is of its deed, which tells the view
  of_deed : (o : Option Doing) (d : Deed) → Plans (Some z) o k given latched (Ok p) after → deed_by 1 p.deed ≡ Some d → HasPlan d
  of_deed (Some (Send s tag body)) d h told = subst HasPlan (same_deed _ d (sym h.reads ∙ told)) is where
    is : HasPlan (Append s (h.can.directory.sent + 1) tag h.can.directory.last_tag body)
    is shows =
        let fits = sent_fits (layout_of z) q s v h.can.directory h.new tag body h.can.old (each _ h.writes) in
        let r = sent (layout_of z) q s v h.can.directory shows h.new tag body h.can.old (names z given h.can.directory.tail h.can.old h.can.beside) fits in
        let e = r.0.sent in
        let f = r.0.received in
        let g : length v.messages ≡ length r.0.nodes = ap (λ (x : List (ℕ × List ℕ)). length x) r.0.messages ∙ length-map r.0.nodes message in (
          record { directory = h.can.directory; new = h.new; old = h.can.old; used = taken_at z k latched h.new h.lowest; sequence = refl; previous_is = refl; old_is = r.1; writes = h.writes },
          fit _ h.writes fits,
          λ open_for. (sym r.0.last_tag, omega (arith, e, f, g), open_for refl),
        )
  of_deed (Some (Receive s)) d h told = subst HasPlan (same_deed _ d (sym h.reads ∙ told)) is where
    is : HasPlan (UnlinkHead s (h.can.directory.received + 1) h.can.cell.tag h.can.cell.body)
    is shows =
        let fits = received_fits (layout_of z) q s v h.can.directory shows h.can.cell h.can.next h.can.used (each _ h.writes) in
        let r = received (layout_of z) q s v h.can.directory shows h.can.cell h.can.next h.can.used (names z given h.can.cell.next h.can.next h.can.beside) fits in (
          record { directory = h.can.directory; cell = h.can.cell; next = h.can.next; used = h.can.used; sender = r.1.sender; sequence = refl; tag_is = refl; body_is = refl; next_is = r.2; writes = h.writes },
          fit _ h.writes fits,
          λ open_for. (r.1.rest, r.1.messages, ap (λ n. n + 1) (sym r.0.received)),
        )
  of_deed (Some (Close s)) d h told = subst HasPlan (same_deed _ d (sym h.reads ∙ told)) is where
    is : HasPlan (Close_deed s)
    is shows = (record { directory = h.marked.can.directory; writes = h.marked.writes }, fit _ h.marked.writes ((each _ h.marked.writes).0, tt), λ open_for. open_for refl)
  of_deed None d h told = absurd h

  -- and that of what takes it back is of its inverse
  of_back : (d : Deed) → Undoes (Some z) (Some d) k given latched (Ok p) after → ShowsAt (layout_of z) q (deed_sender d) v → IsPlan (layout_of z) (Undid d) (newest_first z p) × HasBefores (newest_first z p) q
  of_back (Append s n tag previous body) h shows =
      let fits = unsent_fits (layout_of z) q s v h.can.directory shows h.can.cell previous h.can.front h.can.used (each _ h.writes) in
      let r = unsent (layout_of z) q s v h.can.directory shows h.can.cell previous h.can.front h.can.used (names z given h.can.cell.prev h.can.front h.can.beside) fits in (
        record { directory = h.can.directory; cell = h.can.cell; front = h.can.front; used = h.can.used; sender = r.0; sequence = sym h.can.last; front_is = r.1; writes = h.writes },
        fit _ h.writes fits,
      )
  of_back (UnlinkHead s n tag body) h shows =
      let fits = returned_fits (layout_of z) q s v h.can.directory h.new tag body h.can.old (each _ h.writes) in (
        record {
          directory = h.can.directory;
          new = h.new;
          old = h.can.old;
          used = taken_at z k latched h.new h.lowest;
          some_received = h.can.some;
          sequence = sym h.can.sequence;
          old_is = returned (layout_of z) q s v h.can.directory shows h.new tag body h.can.old (names z given h.can.directory.head h.can.old h.can.beside) fits;
          writes = h.writes;
        },
        fit _ h.writes fits,
      )
  of_back (Close_deed s) h shows = (record { directory = h.marked.can.directory; writes = h.marked.writes }, fit _ h.marked.writes ((each _ h.marked.writes).0, tt))
  of_back (Mark c tag previous) h shows = absurd h

-- ---- what the writes leave

-- the writes of a turn of a sender
leaves_at : (z : Sizes) (p : Plan) (q : Slots) (t : Turn) (v : View) → IsPlan (layout_of z) t (newest_first z p) → HasBefores (newest_first z p) q → turn_sender t < 2 ^ 32 → turn_sender t < sender_count z
    → ShowsAt (layout_of z) q (turn_sender t) v → LeavesAt z p q (turn_sender t) (with_turn t v)
leaves_at z p q t v is fits low below shows = (
  record {
    sender = λ l. own_law (layout_of z) q (newest_first z p) t v is fits below shows;
    client = λ c e. absurd (omega (arith, low, e));
  },
  λ r x ne h. record {
    sender = λ l. others (layout_of z) q (newest_first z p) r x (plan_spares (layout_of z) r t (newest_first z p) ne is) fits (h.sender l);
    client = λ c e. tag_stays (layout_of z) q (newest_first z p) c x (plan_spares_tag (layout_of z) c t (newest_first z p) (λ same. ne (same ∙ sym e)) is) fits (h.client c e);
  },
)

-- it is taken back to what the others alone led to
module _ (z : Sizes) (k : LevelState) (given : List Given) (latched : List ℕ) (p : Plan) (after : LevelState) (d : Deed) (v : View) (q : Slots) (told : deed_by 1 p.deed ≡ Some d) (over : AreOverHeld q (newest_first z p)) (shows : ShowsOf (layout_of z) q (deed_sender d) v) where
  back_to : IsOfSender z d → (u w : View) → with_turn (Undid d) u ≡ w → LeadsBack 1 chain_meaning z (deed_sender d) p.deed u w
  back_to of u w e l t n back held r kept x sizes h held_over shown =
      let is : Undoes (Some z) (Some d) l back held (Ok r) kept = subst (λ o. Undoes o (Some d) l back held (Ok r) kept) sizes (subst (λ o. Undoes l.sizes o l back held (Ok r) kept) told h) in
      let m = of_back z l back held r kept x u held_over d is (shown.sender of.0) in
      (m.1, subst (LeavesAt z r x (deed_sender d)) e (leaves_at z r x (Undid d) u m.0 m.1 of.0 of.1 (shown.sender of.0)))

  leaves_others : (o : Option Doing) → Plans (Some z) o k given latched (Ok p) after → LeavesOthers 1 chain_meaning z d v q p
  leaves_others o h =
      let of = of_sender z k given latched p after o d h told in
      let m = of_deed z k given latched p after q v over o d h told (shows.sender of.0) in
      record {
        over = m.1;
        does = leaves_at z p q (Did d) v m.0 m.1 of.0 of.1 (shows.sender of.0);
        takings = λ e closed ops u w a b. back_to of u w (inverses_leave.sending (Did d) ops v w u e (m.2 (λ x. closed)) b a);
        sendings = λ e ops u w a b. back_to of u w (inverses_leave.receiving (Did d) ops v w u e (m.2 (λ x. absurd (false≢true (sym x ∙ e)))) b a);
      }

pub taken_back : (undo : Bool) (z : Sizes) (o : Option Doing) (k : LevelState) (given : List Given) (latched : List ℕ) (p : Plan) (after : LevelState) (d : Deed) (v : View) (q : Slots) → k.sizes ≡ Some z → PlansFor undo k.sizes o k given latched (Ok p) after
    → deed_by 1 p.deed ≡ Some d → AreOverHeld q (newest_first z p) → ShowsOf (layout_of z) q (deed_sender d) v → LeavesOthers 1 chain_meaning z d v q p
taken_back true z o k given latched p after d v q sizes h told over shows = absurd h
taken_back false z o k given latched p after d v q sizes h told over shows =
    leaves_others z k given latched p after d v q told over shows o (subst (λ s. Plans s o k given latched (Ok p) after) sizes h)
