-- What is latched, exactly: whether a planned send or receive meets others' pages, and what that makes of the call.
use Rattle.std.proofs.Common.{◌≡◌, ℕ, ◌/◌, ◌<◌, ◌||◌, List, [], ◌∷◌, refl, sym, ◌∙◌, ap, subst, true, false, Option, Some, None, inl, inr}
use Rattle.std.proofs.lemmas.Bool.{cases_Bool, false≢true, or_left, true≢false}
use Rattle.rq_model.specs.declared.message.Message.{Message}
use Rattle.rq_model.specs.declared.record.Deed.{Deed}
use Rattle.rq_model.specs.declared.record.Deed.TheVariants.{Append, UnlinkHead, Close, Mark}
use Rattle.rq_model.specs.declared.txn.Txn.{Txn}
use Rattle.rq_model.specs.Legal.{OnFound}
use Rattle.rq_model.specs.Vocabulary.{last}
use Rattle.rq_model.specs.History.Call.{Start_close, Start_mark, Start_send, Start_receive, Start_receive_from, Undo_next}
use Rattle.rq_model.specs.History.Job.{Sending, Taking, Ending, Marking}
use Rattle.rq_page.specs.Sizes.{cell_count, client_slot_at, directory_at}
use Rattle.rq_views.specs.Plans.{Turn}
use Rattle.rq_views.specs.Plans.Turn.{Did, Undid}
use Rattle.std.proofs.Math.Bool.{or-false}
use Rattle.rq_txn.specs.declared.Finished.{Finished}
use Rattle.rq_txn.specs.Rows.{Row, any_under, found_row, latched_in}
use Rattle.rq_store.specs.Plans.{WaitsFor}
use Rattle.rq_store.specs.State.{State, job_of}
use Rattle.rq_sound.specs.Groups.{slots_now}
use Rattle.rq_sound.specs.Latching.{Begins, IsLatched, NeedsLatched, any_latched, at_head, at_tail, before_tail}
use Rattle.rq_sound.specs.Sound.{IsSound}
use Rattle.rq_sound.proofs.Contracts.{planned}
use Rattle.rq_sound.proofs.Groups.{all_stand, none_latched}
use Rattle.rq_sound.proofs.UsedCells.{some_free}
use Rattle.rq_sound.proofs.Latching.{latched_exact}
use Rattle.rq_sound.specs.Inverses.{MayBeUndone}
use Rattle.rq_engine.specs.Aborts.{UndoIsLatched}
use Rattle.rq_engine.specs.Closes.{close_latched}
use Rattle.rq_engine.specs.Marks.{mark_latched}
use Rattle.rq_engine.specs.Sends.{SendIsLatched, take_latched}

-- ---- a link's page

-- some page is latched, so some operation is under way
pub latched_busy : (rows : List Row) (p : ℕ) → latched_in rows p ≡ true → any_under rows ≡ true
latched_busy rows p h = elim (cases_Bool (any_under rows)) [
  | inl y ↦ y
  | inr n ↦ absurd (true≢false (sym h ∙ none_latched rows p n))
]

pub any_busy : (rows : List Row) (xs : List ℕ) → any_latched rows xs ≡ true → any_under rows ≡ true
any_busy rows [] h = absurd (false≢true h)
any_busy rows (a ∷ xs) h = elim (cases_Bool (latched_in rows (a / 16))) [
  | inl y ↦ latched_busy rows (a / 16) y
  | inr n ↦ any_busy rows xs (ap (λ b. b || any_latched rows xs) (sym n) ∙ h)
]

-- ---- calls

module _ (s : State) (k : IsSound s) where
  -- what a send needs, read from the slots as they are
  send_needs : (m : Message) (t : Txn) (turn : Turn) → Begins s (Start_send t m) turn → SendIsLatched s m.sender → NeedsLatched s turn
  send_needs m t (Did (Append g n tag previous body)) b h =
      let same : g ≡ m.sender = (let e : Sending _ ≡ Sending m = b in cc e) in
      elim h [
        | inl y ↦ inl (sym (latched_exact.as_read s (Did (Append g n tag previous body)) k) ∙ ap (λ x. any_latched s.rows (at_tail (slots_now s) x)) same ∙ y)
        | inr all ↦ inr (refl, all)
      ]
  send_needs m t (Did (UnlinkHead g n tag body)) b h = absurd (let e : Taking g ≡ Sending m = b in cc e)
  send_needs m t (Did (Close g)) b h = absurd (let e : Ending g ≡ Sending m = b in cc e)
  send_needs m t (Did (Mark c tag previous)) b h = absurd (let e : Marking c tag ≡ Sending m = b in cc e)
  send_needs m t (Undid d) b h = absurd b

  -- the call is latched where its send is, and only there
  pub send_latched : (t : Txn) (g tag : ℕ) (body : List ℕ) → SendIsLatched s g → IsLatched s (Start_send t (record { sender = g; tag = tag; body = body }))
  send_latched t g tag body h = record {
    some = (Did (Append g 0 tag 0 body), refl);
    each = λ turn b. send_needs (record { sender = g; tag = tag; body = body }) t turn b h;
  }

  pub send_unlatched : (t : Txn) (g tag : ℕ) (body : List ℕ) → (SendIsLatched s g → ⊥) → IsLatched s (Start_send t (record { sender = g; tag = tag; body = body })) → ⊥
  send_unlatched t g tag body free h =
      let turn = Did (Append g 0 tag 0 body) in
      elim (h.each turn refl) [
        | inl y ↦ free (inl (latched_exact.as_read s turn k ∙ y))
        | inr all ↦ free (inr all.1)
      ]

  -- so some operation is under way
  pub send_busy : (g : ℕ) → s.cells_in_use < cell_count s.sizes → SendIsLatched s g → any_under s.rows ≡ true
  send_busy g room h = elim h [
    | inl y ↦ any_busy s.rows (at_tail (slots_now s) g) y
    | inr all ↦ let f = planned.send_finds s k room in latched_busy s.rows (f.0 / 16) (all f.0 f.1 (k.pages f.0 ∙ f.2))
  ]

  take_needs : (g : ℕ) (d : Deed) → job_of d ≡ Taking g → take_latched s g ≡ true → NeedsLatched s (Did d)
  take_needs g (Append e n tag previous body) b h = absurd (let x : Sending _ ≡ Taking g = b in cc x)
  take_needs g (UnlinkHead e n tag body) b h =
      let same : e ≡ g = (let x : Taking e ≡ Taking g = b in cc x) in
      inl (sym (latched_exact.as_read s (Did (UnlinkHead e n tag body)) k) ∙ ap (λ x. take_latched s x) same ∙ h)
  take_needs g (Close e) b h = absurd (let x : Ending e ≡ Taking g = b in cc x)
  take_needs g (Mark c tag previous) b h = absurd (let x : Marking c tag ≡ Taking g = b in cc x)

  take_needs_none : (g : ℕ) → NeedsLatched s (Did (UnlinkHead g 0 0 [])) → take_latched s g ≡ false → ⊥
  take_needs_none g h free = elim h [
    | inl y ↦ true≢false (sym y ∙ sym (latched_exact.as_read s (Did (UnlinkHead g 0 0 [])) k) ∙ free)
    | inr x ↦ false≢true x.0
  ]

  -- a receive from one sender
  pub from_latched : (t : Txn) (g : ℕ) → take_latched s g ≡ true → IsLatched s (Start_receive_from t g)
  from_latched t g h = record { some = (Did (UnlinkHead g 0 0 []), refl); each = λ turn b. at turn b } where
    at : (turn : Turn) → Begins s (Start_receive_from t g) turn → NeedsLatched s turn
    at (Did d) b = take_needs g d b h
    at (Undid d) b = absurd b

  pub from_unlatched : (t : Txn) (g : ℕ) → take_latched s g ≡ false → IsLatched s (Start_receive_from t g) → ⊥
  from_unlatched t g free h = take_needs_none g (h.each (Did (UnlinkHead g 0 0 [])) refl) free

  -- a receive from whichever
  pub any_latches : (t : Txn) (e : ℕ) → WaitsFor s t e → ((g : ℕ) → WaitsFor s t g → take_latched s g ≡ true) → IsLatched s (Start_receive t)
  any_latches t e w h = record { some = (Did (UnlinkHead e 0 0 []), (e, w, refl)); each = λ turn b. at turn b } where
    at : (turn : Turn) → Begins s (Start_receive t) turn → NeedsLatched s turn
    at (Did d) b = take_needs b.0 d b.2 (h b.0 b.1)
    at (Undid d) b = absurd b

  pub any_unlatched : (t : Txn) (g : ℕ) → WaitsFor s t g → take_latched s g ≡ false → IsLatched s (Start_receive t) → ⊥
  any_unlatched t g w free h = take_needs_none g (h.each (Did (UnlinkHead g 0 0 [])) (g, w, refl)) free

  close_needs : (g : ℕ) (d : Deed) → job_of d ≡ Ending g → close_latched s g ≡ true → NeedsLatched s (Did d)
  close_needs g (Append e n tag previous body) b h = absurd (let x : Sending _ ≡ Ending g = b in cc x)
  close_needs g (UnlinkHead e n tag body) b h = absurd (let x : Taking e ≡ Ending g = b in cc x)
  close_needs g (Close e) b h =
      let same : e ≡ g = (let x : Ending e ≡ Ending g = b in cc x) in
      inl (or_left (close_latched s e) false (ap (close_latched s) same ∙ h))
  close_needs g (Mark c tag previous) b h = absurd (let x : Marking c tag ≡ Ending g = b in cc x)

  -- a close
  pub close_refused : (t : Txn) (g : ℕ) → close_latched s g ≡ true → IsLatched s (Start_close t g)
  close_refused t g h = record { some = (Did (Close g), refl); each = λ turn b. at turn b } where
    at : (turn : Turn) → Begins s (Start_close t g) turn → NeedsLatched s turn
    at (Did d) b = close_needs g d b h
    at (Undid d) b = absurd b

  pub close_unlatched : (t : Txn) (g : ℕ) → close_latched s g ≡ false → IsLatched s (Start_close t g) → ⊥
  close_unlatched t g free h = elim (h.each (Did (Close g)) refl) [
    | inl y ↦ true≢false (sym y ∙ ap (λ b. b || false) free)
    | inr x ↦ false≢true x.0
  ]

  mark_needs : (c tag : ℕ) (d : Deed) → job_of d ≡ Marking c tag → mark_latched s c ≡ true → NeedsLatched s (Did d)
  mark_needs c tag (Append e n u previous body) b h = absurd (let x : Sending _ ≡ Marking c tag = b in cc x)
  mark_needs c tag (UnlinkHead e n u body) b h = absurd (let x : Taking e ≡ Marking c tag = b in cc x)
  mark_needs c tag (Close e) b h = absurd (let x : Ending e ≡ Marking c tag = b in cc x)
  mark_needs c tag (Mark e u previous) b h =
      let same : e ≡ c = (let x : Marking e u ≡ Marking c tag = b in cc x) in
      inl (or_left (mark_latched s e) false (ap (mark_latched s) same ∙ h))

  -- a mark
  pub mark_refused : (t : Txn) (c tag : ℕ) → mark_latched s c ≡ true → IsLatched s (Start_mark t c tag)
  mark_refused t c tag h = record { some = (Did (Mark c tag 0), refl); each = λ turn b. at turn b } where
    at : (turn : Turn) → Begins s (Start_mark t c tag) turn → NeedsLatched s turn
    at (Did d) b = mark_needs c tag d b h
    at (Undid d) b = absurd b

  pub mark_unlatched : (t : Txn) (c tag : ℕ) → mark_latched s c ≡ false → IsLatched s (Start_mark t c tag) → ⊥
  mark_unlatched t c tag free h = elim (h.each (Did (Mark c tag 0)) refl) [
    | inl y ↦ true≢false (sym y ∙ ap (λ b. b || false) free)
    | inr x ↦ false≢true x.0
  ]

  -- an inverse
  undo_needs : (d : Deed) → UndoIsLatched s d → NeedsLatched s (Undid d)
  undo_needs (Append g n tag previous body) h = inl (sym (latched_exact.as_read s (Undid (Append g n tag previous body)) k) ∙ h)
  undo_needs (UnlinkHead g n tag body) h = elim h [
    | inl y ↦ inl (sym (latched_exact.as_read s (Undid (UnlinkHead g n tag body)) k) ∙ y)
    | inr all ↦ inr (refl, all)
  ]
  undo_needs (Close g) h = inl (sym (latched_exact.as_read s (Undid (Close g)) k) ∙ or_left (latched_in s.rows (directory_at g / 16)) false h)
  undo_needs (Mark c tag previous) h = inl h

  undo_needs_none : (d : Deed) → NeedsLatched s (Undid d) → (UndoIsLatched s d → ⊥) → ⊥
  undo_needs_none (Append g n tag previous body) h free = elim h [
    | inl y ↦ free (latched_exact.as_read s (Undid (Append g n tag previous body)) k ∙ y)
    | inr x ↦ false≢true x.0
  ]
  undo_needs_none (UnlinkHead g n tag body) h free = elim h [
    | inl y ↦ free (inl (latched_exact.as_read s (Undid (UnlinkHead g n tag body)) k ∙ y))
    | inr x ↦ free (inr x.1)
  ]
  undo_needs_none (Close g) h free = elim h [
    | inl y ↦ free (sym (or-false (latched_in s.rows (directory_at g / 16))) ∙ latched_exact.as_read s (Undid (Close g)) k ∙ y)
    | inr x ↦ false≢true x.0
  ]
  undo_needs_none (Mark c tag previous) h free = elim h [ inl y ↦ free y | inr x ↦ false≢true x.0 ]

  module _ (t : Txn) (f : Finished) (newest : OnFound (found_row t s.rows) (λ r. last r.finished ≡ Some f)) where
    begins_it : Begins s (Undo_next t) (Undid f.deed)
    begins_it = found (found_row t s.rows) newest where
      at : (o : Option Finished) → o ≡ Some f → OnFound o (λ y. y.deed ≡ f.deed)
      at o e = subst (λ (x : Option Finished). OnFound x (λ y. y.deed ≡ f.deed)) (sym e) refl

      found : (o : Option Row) → OnFound o (λ r. last r.finished ≡ Some f) → OnFound o (λ r. OnFound (last r.finished) (λ y. y.deed ≡ f.deed))
      found None h = absurd h
      found (Some r) h = at (last r.finished) h

    begins_no_other : (d : Deed) → Begins s (Undo_next t) (Undid d) → f.deed ≡ d
    begins_no_other d b = found (found_row t s.rows) newest b where
      at : (o : Option Finished) → o ≡ Some f → OnFound o (λ y. y.deed ≡ d) → f.deed ≡ d
      at o e h = subst (λ (x : Option Finished). OnFound x (λ y. y.deed ≡ d)) e h

      found : (o : Option Row) → OnFound o (λ r. last r.finished ≡ Some f) → OnFound o (λ r. OnFound (last r.finished) (λ y. y.deed ≡ d)) → f.deed ≡ d
      found None h b = absurd h
      found (Some r) h b = at (last r.finished) h b

    pub undo_latched : UndoIsLatched s f.deed → IsLatched s (Undo_next t)
    undo_latched h = record { some = (Undid f.deed, begins_it); each = λ turn b. at turn b } where
      at : (turn : Turn) → Begins s (Undo_next t) turn → NeedsLatched s turn
      at (Did d) b = absurd b
      at (Undid d) b = subst (λ (x : Deed). NeedsLatched s (Undid x)) (begins_no_other d b) (undo_needs f.deed h)

    pub undo_unlatched : (UndoIsLatched s f.deed → ⊥) → IsLatched s (Undo_next t) → ⊥
    undo_unlatched free h = undo_needs_none f.deed (h.each (Undid f.deed) begins_it) free

  -- so some operation is under way
  pub undo_busy : (d : Deed) → MayBeUndone s d → UndoIsLatched s d → any_under s.rows ≡ true
  undo_busy (Append g n tag previous body) may h = any_busy s.rows (before_tail (slots_now s) g) h
  undo_busy (UnlinkHead g n tag body) may h = elim h [
    | inl y ↦ any_busy s.rows (at_head (slots_now s) g) y
    | inr all ↦ let f = some_free s.sizes (slots_now s) (all_stand s k) may.1 in latched_busy s.rows (f.0 / 16) (all f.0 f.1 f.2)
  ]
  undo_busy (Close g) may h = latched_busy s.rows (directory_at g / 16) h
  undo_busy (Mark c tag previous) may h = any_busy s.rows (client_slot_at s.sizes c ∷ []) h
