-- A group is closed where a commit or a transaction that has not ended has closed it.
use Rattle.std.proofs.Common.{◌≡◌, ◌||◌, ℕ, List, [], ◌∷◌, map, refl, sym, ◌∙◌, ap, Bool, true, false, Option, Some, None, inl, inr, ◌&&◌, cond, not}
use Rattle.std.proofs.lemmas.Bool.{cases_Bool, true≢false, or_from, or_left, or_right, false≢true}
use Rattle.rq_model.specs.declared.txn.Txn.{Txn}
use Rattle.rq_model.specs.declared.record.Deed.{Deed}
use Rattle.rq_model.specs.declared.record.Deed.TheVariants.{Append, UnlinkHead, Close, Mark}
use Rattle.rq_model.specs.Commits.{committed_of, ops_told}
use Rattle.rq_model.specs.Content.{closed, closed_one, said}
use Rattle.rq_model.specs.Ledger.{any_ends, ended_in}
use Rattle.rq_model.specs.Vocabulary.{In, same_txn}
use Rattle.rq_model.proofs.Lists.{same_is, not_same}
use Rattle.rq_model.proofs.Told.{told_ends}
use Rattle.rq_views.specs.Chain.{View}
use Rattle.rq_views.specs.Groups.{committed, on_sending_end, side, with_all}
use Rattle.rq_views.proofs.Deeds.{Sound}
use Rattle.rq_views.proofs.GroupRule.{held}
use Rattle.rq_views.specs.Items.{items}
use Rattle.rq_views.specs.Legal.{Placed, open_deeds, view}
use Rattle.rq_views.proofs.Committed.{say}
use Rattle.rq_views.proofs.Holding.{Holders, committed_is_group, holders}
use Rattle.rq_store.specs.State.{op_done, State}
use Rattle.rq_store.proofs.Grouping.{groups_of}
use Rattle.rq_store.proofs.Placed.{told_placed}
use Rattle.rq_txn.specs.Rows.{Row, found_row}
use Rattle.rq_store.proofs.RowLists.{found_in}
use Rattle.rq_sound.specs.Sound.{IsSound}
use Rattle.rq_sound.specs.Groups.{closed_by_any}

one_open : (g : ℕ) (d : Deed) → on_sending_end g d ≡ false → closed_one g (said d) ≡ false
one_open g (Append r n tag previous body) e = refl
one_open g (UnlinkHead r n tag body) e = refl
one_open g (Close r) e = e
one_open g (Mark c tag previous) e = refl

-- who did nothing at a sending end closed nothing
none_closed : (g : ℕ) (ps : List Placed) → side (on_sending_end g) ps ≡ [] → closed g (say ps) ≡ false
none_closed g [] e = refl
none_closed g (p ∷ ps) e = elim (cases_Bool (on_sending_end g p.deed)) [
  | inl y ↦ (let bad : p.deed ∷ side (on_sending_end g) ps ≡ [] = rw y at e in absurd (cc))
  | inr n ↦ or_from (closed_one g (said p.deed)) (closed g (say ps)) (one_open g p.deed n) (none_closed g ps (rw n at e))
]

nobody : (g : ℕ) (rows : List Row) → ((r : Row) → In r rows → any_ends g (map op_done r.finished) ≡ false) → closed_by_any g rows ≡ false
nobody g [] h = refl
nobody g (r ∷ rows) h = or_from (any_ends g (map op_done r.finished)) (closed_by_any g rows) (h r (inl refl)) (nobody g rows (λ q i. h q (inr i)))

somebody : (g : ℕ) (rows : List Row) (r : Row) → In r rows → any_ends g (map op_done r.finished) ≡ true → closed_by_any g rows ≡ true
somebody g [] r i e = absurd i
somebody g (q ∷ rows) r i e = elim i [
  | inl same ↦ or_left (any_ends g (map op_done q.finished)) (closed_by_any g rows) (ap (λ (x : Row). any_ends g (map op_done x.finished)) (sym same) ∙ e)
  | inr j ↦ or_right (any_ends g (map op_done q.finished)) (closed_by_any g rows) (somebody g rows r j e)
]

-- what is open when all of this is done was open before
closed_stays : (ds : List Deed) (v : View) → (with_all ds v).closed ≡ false → v.closed ≡ false
closed_stays [] v e = e
closed_stays (Append r n tag previous body ∷ ds) v e = closed_stays ds v e
closed_stays (UnlinkHead r n tag body ∷ ds) v e = closed_stays ds v e
closed_stays (Close r ∷ ds) v e = absurd (true≢false e)
closed_stays (Mark c tag previous ∷ ds) v e = closed_stays ds v e

sent_step : (g : ℕ) (d : Deed) (ds : List Deed) (c : View) → Sound (cond (on_sending_end g d) (d ∷ ds) ds) c → Sound ds c
sent_step g d ds c h = elim (cases_Bool (on_sending_end g d)) [ inl y ↦ (rw y at h).1 | inr m ↦ rw m at h ]

step : (g : ℕ) (d : Deed) (ds : List Deed) (b : Bool) (c : View) → Sound (cond (on_sending_end g d) (d ∷ ds) ds) c → (Sound ds c → b ≡ true → c.closed ≡ false) → (closed_one g (said d) || b) ≡ true → c.closed ≡ false
step g (Append r n tag previous body) ds b c h rest e = rest (sent_step g (Append r n tag previous body) ds c h) e
step g (UnlinkHead r n tag body) ds b c h rest e = rest h e
step g (Close r) ds b c h rest e = elim (cases_Bool (on_sending_end g (Close r))) [
  | inl y ↦ closed_stays ds c (rw y at h).0
  | inr m ↦ rest (rw m at h) (rw m at e)
]
step g (Mark k tag previous) ds b c h rest e = rest (sent_step g (Mark k tag previous) ds c h) e

-- who closed a group and has not ended found it open
was_open : (g : ℕ) (ps : List Placed) (c : View) → Sound (side (on_sending_end g) ps) c → closed g (say ps) ≡ true → c.closed ≡ false
was_open g [] c h e = absurd (false≢true e)
was_open g (p ∷ ps) c h e = step g p.deed (side (on_sending_end g) ps) (closed g (say ps)) c h (λ k y. was_open g ps c k y) e

module _ (s : State) (k : IsSound s) (g : ℕ) where
  abbrev h : Holders g (items s.sizes s.records)
  h = holders g (items s.sizes s.records) (groups_of s.sizes s.records k.log)

  abbrev open_closed : Txn → Bool
  open_closed t = closed g (say (open_deeds t (items s.sizes s.records)))

  own : (r : Row) → In r s.rows → any_ends g (map op_done r.finished) ≡ open_closed r.txn
  own r i =
      sym (ap (any_ends g) (told_placed r.finished)) ∙ sym (ap (λ ps. any_ends g (ops_told (say ps))) (k.standing.each r i).done)
      ∙ told_ends g (say (open_deeds r.txn (items s.sizes s.records)))

  any_is : closed_by_any g s.rows ≡ open_closed h.sender
  any_is = elim (cases_Bool (open_closed h.sender)) [
    | inl y ↦ at (found_row h.sender s.rows) refl y ∙ sym y
    | inr n ↦ nobody g s.rows (λ r i. own r i ∙ elim (cases_Bool (same_txn r.txn h.sender)) [
      | inl y ↦ ap open_closed (same_is r.txn h.sender y) ∙ n
      | inr m ↦ none_closed g (open_deeds r.txn (items s.sizes s.records)) (h.sends r.txn (not_same r.txn h.sender m))
    ]) ∙ sym n
  ] where
    at : (o : Option Row) → found_row h.sender s.rows ≡ o → open_closed h.sender ≡ true → closed_by_any g s.rows ≡ true
    at None e y = absurd (true≢false (sym y ∙ ap (λ ps. closed g (say ps)) (k.standing.others h.sender e).settled))
    at (Some r) e y = let i = found_in h.sender s.rows r e in somebody g s.rows r i.0 (own r i.0 ∙ ap open_closed i.1 ∙ y)

  pub closed_by : (view (items s.sizes s.records) g).closed ≡ (closed_by_any g s.rows || ended_in (committed_of s.records) g)
  closed_by =
      let c = committed_is_group s.sizes g s.records k.log.rules k.log.reads in
      h.view.closed ∙ ap (λ b. b || (committed (items s.sizes s.records) g).closed) (sym any_is) ∙ ap (λ b. closed_by_any g s.rows || b) c.closed

  -- not by both
  not_both : closed_by_any g s.rows ≡ true → ended_in (committed_of s.records) g ≡ false
  not_both y =
      let sound = (held g (items s.sizes s.records) (groups_of s.sizes s.records k.log)).sends h.sender in
      let c = committed_is_group s.sizes g s.records k.log.rules k.log.reads in
      sym c.closed ∙ was_open g (open_deeds h.sender (items s.sizes s.records)) (committed (items s.sizes s.records) g) sound (sym any_is ∙ y)

  pub closed_by_commit : ended_in (committed_of s.records) g ≡ ((view (items s.sizes s.records) g).closed && not (closed_by_any g s.rows))
  closed_by_commit = sym (ap (λ b. b && not (closed_by_any g s.rows)) closed_by ∙ only (closed_by_any g s.rows) (ended_in (committed_of s.records) g) not_both) where
    only : (a b : Bool) → (a ≡ true → b ≡ false) → ((a || b) && not a) ≡ b
    only true b n = sym (n refl)
    only false true n = refl
    only false false n = refl
