-- Clients' slots that were given, and plans of marks.
use Rattle.std.proofs.Common.{arith, ◌≡◌, ◌≢◌, ℕ, ◌+◌, ◌-◌, ◌/◌, ◌%◌, ◌<◌, ◌≤◌, ◌^◌, List, [], ◌∷◌, reverse, Bool, true, false, cond, nat_eq, Option, None, Some, IfNone, IfSome, refl, sym, ap, ◌∙◌, subst}
use Rattle.std.proofs.lemmas.Bool.{eqb-true}
use Rattle.rq_model.specs.declared.record.Deed.TheVariants.{Mark}
use Rattle.rq_model.specs.Deeds.{deed_by, spelled_deed}
use Rattle.rq_page.specs.Clients.{IsClientSlot, client_bytes, client_in}
use Rattle.rq_page.specs.Kinds.{kind_of}
use Rattle.rq_page.specs.Sizes.{Sizes, client_at, client_count, client_slot_at}
use Rattle.rq_page.specs.Slots.{Client, HoldsClient, IsClientOf, IsSlotFor, IsSlotOf, MayHold, held_for, held_in}
use Rattle.rq_page.specs.declared.client.ClientSlot.{ClientSlot}
use Rattle.rq_page.specs.declared.layout.PageKind.{PageKind}
use Rattle.rq_page.specs.declared.layout.PageKind.TheVariants as kind
use Rattle.rq_page.proofs.Addresses.{clients_have_slots, kind_tags}
use Rattle.rq_page.proofs.ClientBytes.{client_in-client_bytes}
use Rattle.rq_page.proofs.Spellings.{held_client, spelling_tells}
use Rattle.rq_views.specs.Items.{layout_of}
use Rattle.rq_views.specs.Plans.{client_write}
use Rattle.rq_level.specs.ChainPlans.{IsInverse}
use Rattle.rq_level.specs.Given.{AreGiven, GivenHolds, given_at}
use Rattle.rq_level.specs.LevelState.{LevelState, told_sizes}
use Rattle.rq_level.specs.Meaning.{NotesNothing, tag_meaning}
use Rattle.rq_level.specs.TagPlans.{IsTagPlan, IsUntagPlan}
use Rattle.rq_level.specs.Writes.{AreSlotWrites, writes_of}
use Rattle.rq_level.specs.declared.slots.Given.{Given}
use Rattle.rq_level.specs.declared.writes.Plan.{Plan}
use Rattle.rq_level.specs.declared.writes.Gist.TheVariants as gists
use Rattle.rq_level.specs.declared.writes.Replies.TheVariants as replies
use Rattle.rq_chain.proofs.Givens.{given_is, holds}
use Rattle.rq_chain.proofs.Slots.{Told}
use Rattle.rq_tags.specs.Clients.{IsClientGiven}

-- what is known of bytes that spell what a client's slot holds
pub client_told : (z : Sizes) (a : ℕ) (x : ClientSlot) (bytes : List ℕ) → a ≡ client_slot_at z x.client → x.client < client_count z
    → IsClientSlot x → bytes ≡ client_bytes x → Told z a (Client x) bytes
client_told z a x bytes at below numbers spelled_so =
    let here = client_slot_at z x.client in
    let place = clients_have_slots z x.client below in
    let known : kind_of z (here / 16) ≡ Some kind.Tags = kind_tags z (here / 16) place.0 place.1 in
    let fits : IsClientOf (client_at z (here / 16) (here % 16)) x = record { numbers = numbers; own = sym place.4 } in
    let there : MayHold (kind_of z (here / 16)) z (here / 16) (here % 16) (Client x) =
    subst (λ (k : Option PageKind). MayHold k z (here / 16) (here % 16) (Client x)) (sym known) fits in
    let told = spelling_tells z (here / 16) (here % 16) (Client x) place.2 place.3 there in
    subst (λ (n : ℕ). Told z n (Client x) bytes) (sym at) (record {
      place = record { page_low = omega (arith, place.0); page_high = place.1; slot = place.2 };
      told = ap (held_in z (here / 16)) spelled_so ∙ told.0;
      slot = subst (IsSlotOf z (here / 16) (here % 16)) (sym spelled_so) told.1;
    })

module _ (z : Sizes) (given : List Given) (c a : ℕ) (bytes : List ℕ) (below : c < client_count z) (all : AreGiven z given) (at : a ≡ client_slot_at z c) (e : given_at a given ≡ Some bytes) where
  known : kind_of z (client_slot_at z c / 16) ≡ Some kind.Tags
  known = let place = clients_have_slots z c below in kind_tags z (client_slot_at z c / 16) place.0 place.1

  there : given_at (client_slot_at z c) given ≡ Some bytes
  there = ap (λ (n : ℕ). given_at n given) (sym at) ∙ e

  -- its bytes are a client's
  stands : HoldsClient c bytes
  stands =
      let here = client_slot_at z c in
      let slot = (given_is z here given bytes all there).slot in
      subst (λ (n : ℕ). HoldsClient n bytes) (clients_have_slots z c below).4
      (subst (λ (k : Option PageKind). IsSlotFor k z (here / 16) (here % 16) bytes) known slot.held)

  -- what they are read as is what was given
  client_read : (x : ClientSlot) → IsClientSlot x → client_bytes x ≡ bytes → IsClientGiven z given c x
  client_read x numbers spells =
      let here = client_slot_at z c in
      let read : client_in bytes ≡ x = ap client_in (sym spells) ∙ client_in-client_bytes x numbers in
      let held : held_in z (here / 16) bytes ≡ Client x = subst (λ (k : Option PageKind). held_for k bytes ≡ Client x) (sym known) (ap Client read) in
      record {
        below = below;
        holds = holds z given here (Client x) bytes there held;
        fits = record { numbers = numbers; own = held_client c x bytes numbers spells stands };
      }

  pub client_found : (o : Option ClientSlot) → IfSome o (λ x. IsClientSlot x × (client_bytes x ≡ bytes)) → IfSome o (λ x. IsClientGiven z given c x)
  client_found None is = tt
  client_found (Some x) is = client_read x is.0 is.1

  -- and they are read
  pub client_missing : (o : Option ClientSlot) → ((x : ClientSlot) → IsClientSlot x → client_bytes x ≡ bytes → o ≡ Some x)
      → IfNone o ((x : ClientSlot) → c < client_count z → GivenHolds z given (client_slot_at z c) (Client x) → ⊥)
  client_missing None only = λ x b h. let no : None ≡ Some (client_in bytes) = only (client_in bytes) stands.held.numbers stands.spelled_so in absurd (let same : None ≡ Some (client_in bytes) = no in cc)
  client_missing (Some x) only = tt

module _ (z : Sizes) (k : LevelState) (given : List Given) (c tag : ℕ) (p : Plan) (held after : ClientSlot) (is : IsClientGiven z given c held)
    (writes : reverse (writes_of z p.writes.items) ≡ client_write (layout_of z) held after ∷ []) (slots : AreSlotWrites z p.writes.items) where
  pub is_tag_plan : held.count ≤ 2 ^ 50 → after ≡ record held { count = held.count + 1; tag = tag } → p.deed ≡ spelled_deed (Mark c tag held.tag)
      → deed_by 2 p.deed ≡ Some (Mark c tag held.tag) → p.reply ≡ replies.Deed (gists.Mark c tag) → IsTagPlan z k given c tag p k
  is_tag_plan room after_is deed reads reply = record {
    can = record { below = is.below; held = held; held_is = is.holds; own = is.fits.own; room = room };
    writes = writes ∙ ap (λ (x : ClientSlot). client_write (layout_of z) held x ∷ []) after_is;
    slots = slots;
    deed = deed;
    reads = reads;
    reply = reply;
    kept = refl;
  }

  pub is_untag_plan : (previous : ℕ) → 0 < held.count → held.tag ≡ tag → after ≡ record held { count = held.count - 1; tag = previous } → IsInverse p
      → IsUntagPlan z k given c tag previous p k
  is_untag_plan previous some last after_is inverse = record {
    can = record { below = is.below; held = held; held_is = is.holds; own = is.fits.own; some = some; last = last };
    writes = writes ∙ ap (λ (x : ClientSlot). client_write (layout_of z) held x ∷ []) after_is;
    slots = slots;
    inverse = inverse;
    kept = refl;
  }

-- but for the sizes nothing is kept
elsewhere : (k : LevelState) (a : ℕ) (bytes : List ℕ) (b : Bool) → nat_eq a 1 ≡ b → a ≢ 1 → cond b (record k { sizes = told_sizes bytes }) k ≡ k
elsewhere k a bytes true one far = absurd (far (eqb-true a 1 one))
elsewhere k a bytes false one far = refl

pub notes_sizes_alone : NotesNothing tag_meaning
notes_sizes_alone = record { same = λ k a bytes far. elsewhere k a bytes (nat_eq a 1) refl far }
