-- What stands on pages that no operation under way has latched.
use Rattle.std.proofs.Common.{◌≡◌, ◌≢◌, ℕ, ◌<◌, List, [], ◌∷◌, false, sym, ap, ◌∙◌, subst, ◌⊎◌, inl, inr, arith}
use Rattle.std.proofs.lemmas.Bool.{true≢false}
use Rattle.rq_model.specs.declared.record.Deed.TheVariants.{Append, UnlinkHead, Close, Mark}
use Rattle.rq_model.specs.declared.txn.Sub.{Sub}
use Rattle.rq_page.specs.declared.directory.Directory.{Directory}
use Rattle.rq_views.specs.Log.{Item, Places, LogState, Write, Untouched, state_of}
use Rattle.rq_views.specs.Plans.{ShowsAt, Spares, Turn, IsPlan, turn_sender, directory_write}
use Rattle.rq_views.specs.Plans.Turn.{Did, Undid}
use Rattle.rq_views.specs.Legal.{IsLegalLog, IsLayout, onto, view}
use Rattle.rq_views.proofs.Overlay.{Good}
use Rattle.rq_views.proofs.Views.{views, plan_spares}

-- a slot on a page on which nobody stands is the one that whole operations have written
pub slots_are_quiet : (page : ℕ → ℕ) (z : LogState) (a : ℕ) → Good page z → ((o : Sub) → z.stands o (page a) ≡ false) → z.slots a ≡ z.quiet a
slots_are_quiet page z a g none = elim (g.each a) [
  | inl k ↦ absurd (true≢false (sym k.1 ∙ none k.0))
  | inr k ↦ k.1
]

first_off : (l : Places) (r s : ℕ) (d e : Directory) (ws us : List Write) → ws ≡ directory_write l r d e ∷ us → Untouched (l.directory_at s) ws → r ≢ s
first_off l r s d e ws us is off = λ same. (subst (Untouched (l.directory_at s)) is off).0 (ap l.directory_at (sym same))

-- an operation that does not write the directory slot of a sender s is not of s; no sender has a client's group
pub not_of : (l : Places) (s : ℕ) (t : Turn) (ws : List Write) → s < l.senders → IsPlan l t ws → Untouched (l.directory_at s) ws → turn_sender t ≢ s
not_of l s (Did (Append r n tag previous body)) ws below p off = first_off l r s _ _ ws _ p.writes off
not_of l s (Did (UnlinkHead r n tag body)) ws below p off = first_off l r s _ _ ws _ p.writes off
not_of l s (Did (Close r)) ws below p off = first_off l r s _ _ ws _ p.writes off
not_of l s (Did (Mark c tag previous)) ws below p off = λ same. omega (arith, p.apart, below, same)
not_of l s (Undid (Append r n tag previous body)) ws below p off = first_off l r s _ _ ws _ p.writes off
not_of l s (Undid (UnlinkHead r n tag body)) ws below p off = first_off l r s _ _ ws _ p.writes off
not_of l s (Undid (Close r)) ws below p off = first_off l r s _ _ ws _ p.writes off
not_of l s (Undid (Mark c tag previous)) ws below p off = λ same. omega (arith, p.apart, below, same)

part_spares : (s : ℕ) (owed ws : List Write) → Spares s (onto owed ws) → Spares s ws
part_spares s [] ws h = h
part_spares s (w ∷ owed) ws h = (part_spares s owed (w ∷ ws) h).1

-- what an operation that has made these writes is for, with what it owes
pub record IsFor (l : Places) (s : ℕ) (ws : List Write) : Type 0 where
  pub turn : Turn
  pub owed : List Write
  pub plan : IsPlan l turn (onto owed ws)
  pub off : Untouched (l.directory_at s) (onto owed ws)

-- where no operation under way is to write the directory slot of s, the slots show the view of s
pub shown_unlatched : (l : Places) (log : List Item) (s : ℕ) → IsLayout l → IsLegalLog l log → s < l.senders
    → ((o : Sub) → ((state_of l log).writes o ≡ []) ⊎ IsFor l s ((state_of l log).writes o)) → ShowsAt l (state_of l log).slots s (view log s)
shown_unlatched l log s is legal below h = views l log s is legal below (λ o. elim (h o) [
  | inl e ↦ subst (Spares s) (sym e) tt
  | inr p ↦ part_spares s p.owed ((state_of l log).writes o) (plan_spares l s p.turn (onto p.owed ((state_of l log).writes o)) (not_of l s p.turn (onto p.owed ((state_of l log).writes o)) below p.plan p.off) p.plan)
])
