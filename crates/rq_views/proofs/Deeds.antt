-- Sends and takes over a view.
use Rattle.rq_model.specs.declared.record.Deed.{Deed}
use Rattle.std.proofs.Common.{◌≡◌, ℕ, suc, ◌+◌, ◌<◌, inl, inr, List, [], ◌∷◌, ◌++◌, length, drop, true, refl, sym, ap, ◌∙◌, arith}
use Rattle.std.proofs.lemmas.Bool.{cases_Bool, false≢true}
use Rattle.std.proofs.lemmas.List.{length-append}
use Rattle.rq_views.specs.Chain.{View, view_appended, view_put_back}
use Rattle.rq_model.specs.declared.record.Deed.TheVariants.{Append, UnlinkHead, Close, Mark}
use Rattle.rq_views.specs.Plans.{with_turn, view_head_unlinked}
use Rattle.rq_views.specs.Plans.Turn.{Did, Undid}
use Rattle.rq_views.specs.Legal.{Placed}
use Rattle.rq_views.specs.Groups.{on_sending_end, on_receiving_end, side, with_all, TellsView}
use Rattle.rq_views.proofs.Chains.{all_but_last_append}

abbrev pub Sends : List Deed → Type 0
Sends [] = Unit {0}
Sends (Append s n tag previous body ∷ ds) = Sends ds
Sends (UnlinkHead s n tag body ∷ ds) = ⊥
Sends (Close s ∷ ds) = Sends ds
Sends (Mark c tag previous ∷ ds) = Sends ds

abbrev pub Takes : List Deed → Type 0
Takes [] = Unit {0}
Takes (Append s n tag previous body ∷ ds) = ⊥
Takes (UnlinkHead s n tag body ∷ ds) = Takes ds
Takes (Close s ∷ ds) = ⊥
Takes (Mark c tag previous ∷ ds) = ⊥

sends_more : (s : ℕ) (d : Deed) (ds : List Deed) → on_sending_end s d ≡ true → Sends ds → Sends (d ∷ ds)
sends_more s (Append r n tag previous body) ds e h = h
sends_more s (UnlinkHead r n tag body) ds e h = absurd (false≢true e)
sends_more s (Close r) ds e h = h
sends_more s (Mark c tag previous) ds e h = h

takes_more : (s : ℕ) (d : Deed) (ds : List Deed) → on_receiving_end s d ≡ true → Takes ds → Takes (d ∷ ds)
takes_more s (Append r n tag previous body) ds e h = absurd (false≢true e)
takes_more s (UnlinkHead r n tag body) ds e h = h
takes_more s (Close r) ds e h = absurd (false≢true e)
takes_more s (Mark c tag previous) ds e h = absurd (false≢true e)

pub side_sends : (s : ℕ) (ps : List Placed) → Sends (side (on_sending_end s) ps)
side_sends s [] = tt
side_sends s (p ∷ ps) = elim (cases_Bool (on_sending_end s p.deed)) [ inl y ↦ rw y (sends_more s p.deed (side (on_sending_end s) ps) y (side_sends s ps)) | inr n ↦ rw n (side_sends s ps) ]

pub side_takes : (s : ℕ) (ps : List Placed) → Takes (side (on_receiving_end s) ps)
side_takes s [] = tt
side_takes s (p ∷ ps) = elim (cases_Bool (on_receiving_end s p.deed)) [ inl y ↦ rw y (takes_more s p.deed (side (on_receiving_end s) ps) y (side_takes s ps)) | inr n ↦ rw n (side_takes s ps) ]

pub put_back_commutes : (ds : List Deed) (v : View) (tag : ℕ) (body : List ℕ) → Sends ds → view_put_back (with_all ds v) tag body ≡ with_all ds (view_put_back v tag body)
put_back_commutes [] v tag body h = refl
put_back_commutes (Append s n t p b ∷ ds) v tag body h = ap (λ x. view_appended x t b) (put_back_commutes ds v tag body h)
put_back_commutes (UnlinkHead s n t b ∷ ds) v tag body h = absurd h
put_back_commutes (Close s ∷ ds) v tag body h = ap (λ (x : View). let y : View = record x { closed = true } in y) (put_back_commutes ds v tag body h)
put_back_commutes (Mark c t p ∷ ds) v tag body h = ap (λ x. view_appended x t []) (put_back_commutes ds v tag body h)

-- the messages of w stand before those of v
abbrev pub StandsBefore : View → View → Type 0
StandsBefore w v = (more : List (ℕ × List ℕ)) × (v.messages ≡ w.messages ++ more)

behind_one : (w v : View) (t : ℕ) (b : List ℕ) → StandsBefore w v → StandsBefore w (view_appended v t b)
behind_one w v t b h = (h.0 ++ (t, b) ∷ [], ap (λ xs. xs ++ (t, b) ∷ []) h.1 ∙ assoc w.messages h.0 ((t, b) ∷ [])) where
  assoc : (xs ys zs : List (ℕ × List ℕ)) → (xs ++ ys) ++ zs ≡ xs ++ (ys ++ zs)
  assoc [] ys zs = refl
  assoc (x ∷ xs) ys zs = ap (λ l. x ∷ l) (assoc xs ys zs)

-- sends put messages behind
pub sends_behind : (ds : List Deed) (v : View) → Sends ds → StandsBefore v (with_all ds v)
sends_behind [] v h = ([], sym (nil_behind v.messages)) where
  nil_behind : (xs : List (ℕ × List ℕ)) → xs ++ [] ≡ xs
  nil_behind [] = refl
  nil_behind (x ∷ xs) = ap (λ l. x ∷ l) (nil_behind xs)
sends_behind (Append s n t p b ∷ ds) v h = behind_one v (with_all ds v) t b (sends_behind ds v h)
sends_behind (UnlinkHead s n t b ∷ ds) v h = absurd h
sends_behind (Close s ∷ ds) v h = sends_behind ds v h
sends_behind (Mark c t p ∷ ds) v h = behind_one v (with_all ds v) t [] (sends_behind ds v h)

-- a message is taken beside one that is put behind it
head_beside : (v x w : View) (m : ℕ × List ℕ) (rest : List (ℕ × List ℕ)) (t : ℕ) (b : List ℕ) → v.messages ≡ m ∷ rest → StandsBefore v x → view_head_unlinked x ≡ w → view_head_unlinked (view_appended x t b) ≡ view_appended w t b
head_beside v x w m rest t b e k h =
    let front : x.messages ≡ m ∷ (rest ++ k.0) = k.1 ∙ ap (λ xs. xs ++ k.0) e in
    let moved : drop 1 (x.messages ++ (t, b) ∷ []) ≡ drop 1 x.messages ++ (t, b) ∷ [] = ap (λ xs. drop 1 (xs ++ (t, b) ∷ [])) front ∙ sym (ap (λ xs. drop 1 xs ++ (t, b) ∷ []) front) in
    ap (λ (r : List (ℕ × List ℕ)). let y : View = record { closed = x.closed; received = x.received + 1; last_tag = t; messages = r } in y) moved
    ∙ ap (λ y. view_appended y t b) h

pub head_commutes : (ds : List Deed) (v : View) (m : ℕ × List ℕ) (rest : List (ℕ × List ℕ)) → Sends ds → v.messages ≡ m ∷ rest → view_head_unlinked (with_all ds v) ≡ with_all ds (view_head_unlinked v)
head_commutes [] v m rest h e = refl
head_commutes (Append s n t p b ∷ ds) v m rest h e = head_beside v (with_all ds v) (with_all ds (view_head_unlinked v)) m rest t b e (sends_behind ds v h) (head_commutes ds v m rest h e)
head_commutes (UnlinkHead s n t b ∷ ds) v m rest h e = absurd h
head_commutes (Close s ∷ ds) v m rest h e = ap (λ (x : View). let y : View = record x { closed = true } in y) (head_commutes ds v m rest h e)
head_commutes (Mark c t p ∷ ds) v m rest h e = head_beside v (with_all ds v) (with_all ds (view_head_unlinked v)) m rest t [] e (sends_behind ds v h) (head_commutes ds v m rest h e)

-- last tag and flag come from last tag and flag
pub same_marks : (ds : List Deed) (v w : View) → v.last_tag ≡ w.last_tag → v.closed ≡ w.closed → ((with_all ds v).last_tag ≡ (with_all ds w).last_tag) × ((with_all ds v).closed ≡ (with_all ds w).closed)
same_marks [] v w e f = (e, f)
same_marks (Append s n t p b ∷ ds) v w e f = (refl, (same_marks ds v w e f).1)
same_marks (UnlinkHead s n t b ∷ ds) v w e f = same_marks ds v w e f
same_marks (Close s ∷ ds) v w e f = ((same_marks ds v w e f).0, refl)
same_marks (Mark c t p ∷ ds) v w e f = (refl, (same_marks ds v w e f).1)

pub takes_marks : (ds : List Deed) (v : View) → Takes ds → ((with_all ds v).last_tag ≡ v.last_tag) × ((with_all ds v).closed ≡ v.closed)
takes_marks [] v h = (refl, refl)
takes_marks (Append s n t p b ∷ ds) v h = absurd h
takes_marks (UnlinkHead s n t b ∷ ds) v h = takes_marks ds v h
takes_marks (Close s ∷ ds) v h = absurd h
takes_marks (Mark c t p ∷ ds) v h = absurd h

pub sends_received : (ds : List Deed) (v : View) → Sends ds → (with_all ds v).received ≡ v.received
sends_received [] v h = refl
sends_received (Append s n t p b ∷ ds) v h = sends_received ds v h
sends_received (UnlinkHead s n t b ∷ ds) v h = absurd h
sends_received (Close s ∷ ds) v h = sends_received ds v h
sends_received (Mark c t p ∷ ds) v h = sends_received ds v h

abbrev pub total : View → ℕ
total v = v.received + length v.messages

pub appended_total : (v : View) (t : ℕ) (b : List ℕ) → total (view_appended v t b) ≡ total v + 1
appended_total v t b = omega (arith, length-append v.messages ((t, b) ∷ []))

same_after : (v w : View) (t : ℕ) (b : List ℕ) → total v ≡ total w → total (view_appended v t b) ≡ total (view_appended w t b)
same_after v w t b e = appended_total v t b ∙ ap (λ n. n + 1) e ∙ sym (appended_total w t b)

pub same_total : (ds : List Deed) (v w : View) → Sends ds → total v ≡ total w → total (with_all ds v) ≡ total (with_all ds w)
same_total [] v w h e = e
same_total (Append s n t p b ∷ ds) v w h e = same_after (with_all ds v) (with_all ds w) t b (same_total ds v w h e)
same_total (UnlinkHead s n t b ∷ ds) v w h e = absurd h
same_total (Close s ∷ ds) v w h e = same_total ds v w h e
same_total (Mark c t p ∷ ds) v w h e = same_after (with_all ds v) (with_all ds w) t [] (same_total ds v w h e)

-- each deed tells what it was done over
abbrev pub Sound : List Deed → View → Type 0
Sound [] v = Unit {0}
Sound (d ∷ ds) v = TellsView d (with_all ds v) × Sound ds v

pub takes_total : (rs : List Deed) (v : View) → Takes rs → Sound rs v → total (with_all rs v) ≡ total v
takes_total [] v h k = refl
takes_total (Append s n t p b ∷ rs) v h k = absurd h
takes_total (UnlinkHead s n t b ∷ rs) v h k =
    let x = with_all rs v in
    let a : length x.messages ≡ suc (length k.0.0) = ap (λ xs. length xs) k.0.1 in
    let b : length (drop 1 x.messages) ≡ length k.0.0 = ap (λ xs. length (drop 1 xs)) k.0.1 in
    let i : total x ≡ total v = takes_total rs v h k.1 in
    omega (arith, a, b, i)
takes_total (Close s ∷ rs) v h k = absurd h
takes_total (Mark c t p ∷ rs) v h k = absurd h

pub sends_sound : (ds : List Deed) (v w : View) → v.last_tag ≡ w.last_tag → v.closed ≡ w.closed → total v ≡ total w → Sends ds → Sound ds v → Sound ds w
sends_sound [] v w e f g h k = tt
sends_sound (Append s n t p b ∷ ds) v w e f g h k =
    let m = same_marks ds v w e f in
    ((k.0.0 ∙ m.0, k.0.1 ∙ ap (λ x. x + 1) (same_total ds v w h g), sym m.1 ∙ k.0.2), sends_sound ds v w e f g h k.1)
sends_sound (UnlinkHead s n t b ∷ ds) v w e f g h k = absurd h
sends_sound (Close s ∷ ds) v w e f g h k = (sym (same_marks ds v w e f).1 ∙ k.0, sends_sound ds v w e f g h k.1)
sends_sound (Mark c t p ∷ ds) v w e f g h k =
    let m = same_marks ds v w e f in
    ((k.0.0 ∙ m.0, sym m.1 ∙ k.0.1), sends_sound ds v w e f g h k.1)

-- takes that are sound commute with sends
pub takes_commute : (rs ds : List Deed) (v : View) → Takes rs → Sends ds → Sound rs v → with_all ds (with_all rs v) ≡ with_all rs (with_all ds v)
takes_commute [] ds v t h k = refl
takes_commute (Append s n tag p b ∷ rs) ds v t h k = absurd t
takes_commute (UnlinkHead s n tag b ∷ rs) ds v t h k = sym (head_commutes ds (with_all rs v) (tag, b) k.0.0 h k.0.1) ∙ ap view_head_unlinked (takes_commute rs ds v t h k.1)
takes_commute (Close s ∷ rs) ds v t h k = absurd t
takes_commute (Mark c tag p ∷ rs) ds v t h k = absurd t

-- takes are sound too where more was sent
pub takes_sound : (rs ds : List Deed) (v : View) → Takes rs → Sends ds → Sound rs v → Sound rs (with_all ds v)
takes_sound [] ds v t h k = tt
takes_sound (Append s n tag p b ∷ rs) ds v t h k = absurd t
takes_sound (UnlinkHead s n tag b ∷ rs) ds v t h k =
    let m = sends_behind ds (with_all rs v) h in
    ((k.0.0 ++ m.0, ap (λ (x : View). x.messages) (sym (takes_commute rs ds v t h k.1)) ∙ m.1 ∙ ap (λ xs. xs ++ m.0) k.0.1, k.0.2 ∙ ap (λ x. x + 1) (sym (sends_received ds (with_all rs v) h) ∙ ap (λ (x : View). x.received) (takes_commute rs ds v t h k.1))), takes_sound rs ds v t h k.1)
takes_sound (Close s ∷ rs) ds v t h k = absurd t
takes_sound (Mark c tag p ∷ rs) ds v t h k = absurd t

view_is : (v : View) (r t : ℕ) (ms : List (ℕ × List ℕ)) → r ≡ v.received → t ≡ v.last_tag → ms ≡ v.messages → ◌≡◌ {A = View} (record { closed = v.closed; received = r; last_tag = t; messages = ms }) v
view_is v r t ms e f g =
    ap (λ (x : ℕ). let y : View = record { closed = v.closed; received = x; last_tag = t; messages = ms } in y) e
    ∙ ap (λ (x : ℕ). let y : View = record { closed = v.closed; received = v.received; last_tag = x; messages = ms } in y) f
    ∙ ap (λ (x : List (ℕ × List ℕ)). let y : View = record { closed = v.closed; received = v.received; last_tag = v.last_tag; messages = x } in y) g

-- what is taken back as it was done leaves what was there
pub taken_back : (d : Deed) (v : View) → TellsView d v → with_turn (Undid d) (with_turn (Did d) v) ≡ v
taken_back (Append s n t p b) v h = view_is v v.received p _ refl h.0 (all_but_last_append v.messages (t, b))
taken_back (UnlinkHead s n t b) v h = view_is v _ v.last_tag _ (omega arith) refl (ap (λ xs. (t, b) ∷ drop 1 xs) h.1 ∙ sym h.1)
taken_back (Close s) v h = ap (λ x. let y : View = record v { closed = x } in y) (sym h)
taken_back (Mark c t p) v h = view_is v v.received p _ refl h.0 (all_but_last_append v.messages (t, []))

-- what a take tells of the whole view it tells of the part that is committed
pub told_front : (ds : List Deed) (v : View) (t : ℕ) (b : List ℕ) → Sends ds → 0 < length v.messages → (rest : List (ℕ × List ℕ)) × ((with_all ds v).messages ≡ (t, b) ∷ rest) → (rest : List (ℕ × List ℕ)) × (v.messages ≡ (t, b) ∷ rest)
told_front ds v t b h pos k = let m = sends_behind ds v h in front v.messages m.0 pos (sym m.1 ∙ k.1) where
  front : {y : ℕ × List ℕ} {rest : List (ℕ × List ℕ)} (xs more : List (ℕ × List ℕ)) → 0 < length xs → xs ++ more ≡ y ∷ rest → (r : List (ℕ × List ℕ)) × (xs ≡ y ∷ r)
  front [] more pos e = absurd (omega (arith, pos))
  front {y} {rest} (x ∷ xs) more pos e = let h : x ≡ y = cc in (xs, ap (λ z. z ∷ xs) h)
