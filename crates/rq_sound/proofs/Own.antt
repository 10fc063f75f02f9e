-- A deed's own slot: each plan of the deed writes it, and deeds of one group have one.
use Rattle.std.proofs.Common.{◌≡◌, ℕ, ◌+◌, ◌-◌, ◌/◌, ◌<◌, ◌≤◌, ◌^◌, List, [], ◌∷◌, reverse, map, refl, sym, ◌∙◌, ap, subst, true, inl, inr, arith}
use Rattle.std.proofs.lemmas.Bool.{cases_Bool}
use Rattle.rq_model.specs.declared.record.Deed.{Deed}
use Rattle.rq_model.specs.declared.record.Deed.TheVariants.{Append, UnlinkHead, Close, Mark}
use Rattle.rq_model.specs.Deeds.{deed_level}
use Rattle.rq_page.specs.Sizes.{Sizes, client_slot_at, directory_at, sender_count}
use Rattle.rq_views.specs.Chain.{View}
use Rattle.rq_views.specs.InStore.{IsDeedOf}
use Rattle.rq_views.specs.Items.{layout_of}
use Rattle.rq_views.specs.Log.{Places, Slots, Untouched, Write}
use Rattle.rq_views.specs.Plans.{IsPlan, ShowsAt, ShowsTag, Turn, deed_sender}
use Rattle.rq_views.specs.Plans.Turn.{Did, Undid}
use Rattle.rq_views.proofs.Counting.{of_store}
use Rattle.rq_views.proofs.Tags.{deed_of as turn_deed}
use Rattle.rq_level.specs.declared.writes.SlotWrite.{SlotWrite}
use Rattle.rq_level.specs.Given.{has_page}
use Rattle.rq_level.specs.Writes.{writes_of}
use Rattle.rq_store.proofs.Owing.{onto_nil}
use Rattle.rq_sound.specs.Rows.{own_slot}
use Rattle.rq_sound.proofs.Going.{off_latched}

-- the slots show this view of the deed's group
abbrev pub ShowsOwn : Places → Slots → Deed → View → Type 0
ShowsOwn l q (Append s n tag previous body) v = ShowsAt l q s v
ShowsOwn l q (UnlinkHead s n tag body) v = ShowsAt l q s v
ShowsOwn l q (Close s) v = ShowsAt l q s v
ShowsOwn l q (Mark c tag previous) v = ShowsTag l q c v

first_off : (a : ℕ) (w : Write) (ws us : List Write) → ws ≡ w ∷ us → w.at ≡ a → Untouched a ws → ⊥
first_off a w ws us is at off = (subst (Untouched a) is off).0 (sym at)

-- a plan writes the own slot of its deed
pub writes_own : (z : Sizes) (t : Turn) (ws : List Write) → IsPlan (layout_of z) t ws → Untouched (own_slot z (turn_deed t)) ws → ⊥
writes_own z (Did (Append s n tag previous body)) ws p off = first_off (directory_at s) _ ws _ p.writes refl off
writes_own z (Did (UnlinkHead s n tag body)) ws p off = first_off (directory_at s) _ ws _ p.writes refl off
writes_own z (Did (Close s)) ws p off = first_off (directory_at s) _ ws _ p.writes refl off
writes_own z (Did (Mark c tag previous)) ws p off = first_off (client_slot_at z c) _ ws _ p.writes (ap (client_slot_at z) p.own) off
writes_own z (Undid (Append s n tag previous body)) ws p off = first_off (directory_at s) _ ws _ p.writes refl off
writes_own z (Undid (UnlinkHead s n tag body)) ws p off = first_off (directory_at s) _ ws _ p.writes refl off
writes_own z (Undid (Close s)) ws p off = first_off (directory_at s) _ ws _ p.writes refl off
writes_own z (Undid (Mark c tag previous)) ws p off = first_off (client_slot_at z c) _ ws _ p.writes (ap (client_slot_at z) p.own) off

-- so it latches that slot's page
pub latches_own : (z : Sizes) (t : Turn) (us : List SlotWrite) → IsPlan (layout_of z) t (reverse (writes_of z us)) → has_page (own_slot z (turn_deed t) / 16) (map (λ w. w.at / 16) us) ≡ true
latches_own z t us plan =
    let a = own_slot z (turn_deed t) in
    elim (cases_Bool (has_page (a / 16) (map (λ w. w.at / 16) us))) [
      | inl y ↦ y
      | inr off ↦ absurd (writes_own z t (reverse (writes_of z us)) plan (subst (Untouched a) (onto_nil (writes_of z us)) (off_latched z a us [] off tt)))
    ]

chain_slot : (z : Sizes) (d : Deed) → deed_level d ≡ 1 → own_slot z d ≡ directory_at (deed_sender d)
chain_slot z (Append s n tag previous body) e = refl
chain_slot z (UnlinkHead s n tag body) e = refl
chain_slot z (Close s) e = refl
chain_slot z (Mark c tag previous) e = absurd (omega (arith, e))

mark_slot : (z : Sizes) (d : Deed) → deed_level d ≡ 2 → own_slot z d ≡ client_slot_at z (deed_sender d - 2 ^ 32)
mark_slot z (Append s n tag previous body) e = absurd (omega (arith, e))
mark_slot z (UnlinkHead s n tag body) e = absurd (omega (arith, e))
mark_slot z (Close s) e = absurd (omega (arith, e))
mark_slot z (Mark c tag previous) e = let same : c ≡ 2 ^ 32 + c - 2 ^ 32 = omega arith in ap (client_slot_at z) same

-- the own slot of a sender's deed is the sender's directory slot
pub sender_slot : (z : Sizes) (d : Deed) → IsDeedOf z d → deed_sender d < sender_count z → own_slot z d ≡ directory_at (deed_sender d)
sender_slot z d h below = elim (of_store z d h) [
  | inl x ↦ chain_slot z d x.0
  | inr x ↦ absurd (let far = x.1 in omega (arith, far, below))
]

client_slot : (z : Sizes) (d : Deed) → IsDeedOf z d → sender_count z ≤ deed_sender d → own_slot z d ≡ client_slot_at z (deed_sender d - 2 ^ 32)
client_slot z d h far = elim (of_store z d h) [
  | inl x ↦ absurd (let below = x.1 in omega (arith, far, below))
  | inr x ↦ mark_slot z d x.0
]

-- deeds of one group have one slot
pub same_slot : (z : Sizes) (d e : Deed) → IsDeedOf z d → IsDeedOf z e → deed_sender d ≡ deed_sender e → own_slot z d ≡ own_slot z e
same_slot z d e h k same = elim (of_store z d h) [
  | inl x ↦ chain_slot z d x.0 ∙ ap directory_at same ∙ sym (sender_slot z e k (subst (λ s. s < sender_count z) same x.1))
  | inr x ↦ mark_slot z d x.0 ∙ ap (λ s. client_slot_at z (s - 2 ^ 32)) same ∙ sym (client_slot z e k (subst (λ s. sender_count z ≤ s) same x.1))
]
