-- The cells that are claimed are those of the messages in chains and of those that are taken by whoever has not
-- committed, and there are as many.
use Rattle.std.proofs.Common.{◌≡◌, ℕ, ◌+◌, ◌≤◌, List, [], ◌∷◌, map, length, Some, refl, sym, ◌∙◌, ap, arith}
use Rattle.std.specs.List.{filter, sum_by}
use Rattle.rq_model.specs.declared.txn.Sub.{Sub}
use Rattle.rq_model.specs.declared.txn.Txn.{Txn}
use Rattle.rq_model.specs.declared.record.Deed.{Deed}
use Rattle.rq_model.specs.declared.record.Deed.TheVariants.{Append, UnlinkHead, Close, Mark}
use Rattle.rq_model.specs.declared.record.Record.{Record}
use Rattle.rq_model.specs.declared.record.Record.TheVariants as records
use Rattle.rq_model.specs.Deeds.{deed_by}
use Rattle.rq_model.specs.Tests.{below}
use Rattle.rq_model.proofs.Counts.{sum_none}
use Rattle.rq_page.specs.Sizes.{Sizes, cell_count, sender_count}
use Rattle.rq_views.specs.Log.{Item, state_of}
use Rattle.rq_views.specs.Log.Item.{OpEnd, CompEnd, Commit}
use Rattle.rq_views.specs.InStore.{InStore}
use Rattle.rq_views.specs.Items.{items, layout_of, told_deed, operation}
use Rattle.rq_views.specs.Legal.{IsLegalLog, Placed, Undoes, open_deeds, undoing, view, view_after}
use Rattle.rq_views.specs.Plans.{Turn, turn_sender, IsPlan}
use Rattle.rq_views.specs.Plans.Turn.{Did, Undid}
use Rattle.rq_views.specs.Stored.{count_used}
use Rattle.rq_views.specs.Claims.{takes_of, appends_of, takes_placed, newest_appends, claimed, HasRoom}
use Rattle.rq_views.proofs.AllOpen.{owned_by, placed_of, all_open, taken, taken_placed, taken_parts, taken_first, newest_takes, own_open, own_taken}
use Rattle.rq_views.proofs.Counting.{gained, lost, IsTurnOf, plan_there, turn_there, turn_sums, deeds_in_store, did_of, undid_of, AllInStore, count_messages, quiet_counts}
use Rattle.rq_views.proofs.Stands.{store_is_layout}
use Rattle.rq_views.proofs.Views.{good, quiet_views}

pub did_counts : (d : Deed) → (lost (Did d) ≡ takes_of d) × (gained (Did d) ≡ appends_of d)
did_counts (Append s n tag previous body) = (refl, refl)
did_counts (UnlinkHead s n tag body) = (refl, refl)
did_counts (Close s) = (refl, refl)
did_counts (Mark c tag previous) = (refl, refl)

pub undid_counts : (d : Deed) → (lost (Undid d) ≡ appends_of d) × (gained (Undid d) ≡ takes_of d)
undid_counts (Append s n tag previous body) = (refl, refl)
undid_counts (UnlinkHead s n tag body) = (refl, refl)
undid_counts (Close s) = (refl, refl)
undid_counts (Mark c tag previous) = (refl, refl)

-- what an operation makes of the number of messages in all chains
turned : (z : Sizes) (log : List Record) (o : Sub) (t : Turn) → IsLegalLog (layout_of z) (items z log)
    → IsTurnOf (sender_count z) t → IsPlan (layout_of z) t ((state_of (layout_of z) (items z log)).writes o)
    → sum_by (λ s. length (view_after s (Some t) (view (items z log) s)).messages) (below (sender_count z)) + lost t
    ≡ count_messages z log + gained t
turned z log o t legal of plan =
    let l = layout_of z in
    let q = (state_of l (items z log)).quiet in
    let ws = (state_of l (items z log)).writes o in
    let v = view (items z log) (turn_sender t) in
    let there : lost t ≤ length v.messages =
    turn_there (sender_count z) t (length v.messages) of (λ lt. plan_there l q ws t v plan ((good l (items z log) legal).fits o) (quiet_views l (items z log) (turn_sender t) (store_is_layout z) legal lt)) in
    turn_sums l ws t (view (items z log)) plan of there

undone : (z : Sizes) (log : List Record) (o : Sub) (u : ℕ) (ps : List Placed) → IsLegalLog (layout_of z) (items z log)
    → AllInStore z ps → Undoes (layout_of z) ps u ((state_of (layout_of z) (items z log)).writes o)
    → sum_by (λ s. length (view_after s (undoing ps) (view (items z log) s)).messages) (below (sender_count z)) + newest_appends ps
    ≡ count_messages z log + newest_takes ps
undone z log o u [] legal fine plan = absurd plan
undone z log o u (p ∷ ps) legal fine plan =
    let a = turned z log o (Undid p.deed) legal (undid_of z p.deed fine.0) plan.1 in
    let c = (undid_counts p.deed).0 in
    let d = (undid_counts p.deed).1 in
    omega (arith, a, c, d)

-- what is claimed
pub claimed_is : (z : Sizes) (log : List Record) → IsLegalLog (layout_of z) (items z log) → InStore z log
    → claimed (items z log) ≡ count_messages z log + taken (all_open (items z log))
claimed_is z [] g k = let e = sum_none (sender_count z) in omega (arith, e)
claimed_is z (records.PageOp t n page slot before after ∷ log) g k = claimed_is z log g.1 k.1
claimed_is z (records.OpEnd t n level deed ∷ log) g k =
    let ih = claimed_is z log g.1 k.1 in
    let d : Deed = told_deed (deed_by level deed) in
    let a = turned z log (operation t n) (Did d) g.1 (did_of z d k.0) g.0.plan in
    let b = (did_counts d).0 in
    let c = (did_counts d).1 in
    omega (arith, ih, a, b, c)
claimed_is z (records.CompEnd t n u ∷ log) g k =
    let ih = claimed_is z log g.1 k.1 in
    let a = undone z log (operation t n) u (open_deeds t (items z log)) g.1 (deeds_in_store z t log k.1) g.0.plan in
    let b = taken_first (owned_by t) (all_open (items z log)) in
    let c : newest_takes (map placed_of (filter (owned_by t) (all_open (items z log))))
    ≡ newest_takes (open_deeds t (items z log)) =
    ap newest_takes (own_open t (items z log)) in
    omega (arith, ih, a, b, c)
claimed_is z (records.Commit t ∷ log) g k =
    let ih = claimed_is z log g.1 k.1 in
    let a = taken_parts (owned_by t) (all_open (items z log)) in
    let b : sum_by takes_placed (open_deeds t (items z log)) ≡ taken (filter (owned_by t) (all_open (items z log))) =
    ap (sum_by takes_placed) (sym (own_open t (items z log)))
    ∙ taken_placed (filter (owned_by t) (all_open (items z log))) in
    omega (arith, ih, a, b)
claimed_is z (_ ∷ log) g k = claimed_is z log g.1 k.1

-- no more is claimed than there is
pub claimed_within : (cells : ℕ) (log : List Item) → HasRoom cells log → claimed log ≤ cells
claimed_within cells [] h = omega arith
claimed_within cells (OpEnd o d ∷ log) h = h.0
claimed_within cells (CompEnd o u ∷ log) h = let a = claimed_within cells log h.1 in omega (arith, a)
claimed_within cells (Commit t ∷ log) h = let a = claimed_within cells log h.1 in omega (arith, a)
claimed_within cells (_ ∷ log) h = claimed_within cells log h.1

-- beside the cells that whole operations use there is one for each message that a transaction took and may put back
pub taken_have_cells : (z : Sizes) (log : List Record) (t : Txn) → IsLegalLog (layout_of z) (items z log) → InStore z log
    → HasRoom (cell_count z) (items z log)
    → count_used z (state_of (layout_of z) (items z log)).quiet + sum_by takes_placed (open_deeds t (items z log))
    ≤ cell_count z
taken_have_cells z log t legal store room =
    let a = claimed_is z log legal store in
    let b = claimed_within (cell_count z) (items z log) room in
    let c : count_used z (state_of (layout_of z) (items z log)).quiet ≡ count_messages z log =
    quiet_counts z log legal store in
    let d = own_taken t (items z log) in
    omega (arith, a, b, c, d)
