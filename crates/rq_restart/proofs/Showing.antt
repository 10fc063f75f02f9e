-- Pages that hold what a log leaves, and the next record of a store on its way.
use Rattle.std.proofs.Common.{◌≡◌, ℕ, ◌+◌, ◌-◌, ◌/◌, ◌%◌, ◌<◌, ◌≤◌, List, ◌∷◌, length, drop, sym, ◌∙◌, ap, subst, arith, false}
use Rattle.rq_model.specs.declared.record.Deed.{Deed}
use Rattle.rq_model.specs.declared.record.Record.{Record}
use Rattle.rq_model.specs.declared.txn.Txn.{Txn}
use Rattle.rq_page.specs.Sizes.{Sizes, address, page_count}
use Rattle.rq_page.specs.Pages.{lsn_of}
use Rattle.rq_page.specs.Slots.{held_in}
use Rattle.rq_pool.specs.Pooled.{IsPool}
use Rattle.rq_views.specs.Log.{put}
use Rattle.rq_views.specs.Stored.{slots_in}
use Rattle.rq_views.proofs.Overlay.{put_agree}
use Rattle.rq_views.proofs.Stands.{page_of_slot}
use Rattle.rq_level.specs.declared.writes.SlotWrite.{SlotWrite}
use Rattle.rq_store.specs.Fitting.{FitsLog, HoldsPage, image_in, left_by, oldest, told_by}
use Rattle.rq_store.specs.Opening.{MayRedo, FitsUpTo, Redoes}
use Rattle.rq_store.specs.State.{State}
use Rattle.rq_store.specs.Steps.{page_op}
use Rattle.rq_store.specs.Whole.{IsWhole}
use Rattle.rq_store.proofs.Bounds.{may_redo}
use Rattle.rq_store.proofs.Fitting.{page_fits_more, slot_holds}
use Rattle.rq_store.proofs.Redoing.{redo_one, redone_slots}
use Rattle.rq_store.proofs.Owing.{address_is}
use Rattle.rq_sound.specs.Calls.{IsPutIn}
use Rattle.rq_sound.specs.Sound.{IsSound}
use Rattle.rq_analysis.specs.Moves.{newest_store}
use Rattle.rq_analysis.specs.Walk.{IsBetween, IsCome, IsWithin, showing}
use Rattle.rq_analysis.proofs.Moving.{moves_sound}
use Rattle.rq_analysis.proofs.Recovering.{behind}
use Rattle.rq_analysis.proofs.Stopping.{moves_sizes}
use Rattle.rq_model.specs.Bases.{is_base, marked}
use Rattle.rq_model.specs.Incarnations.{IsNext}
use Rattle.rq_analysis.proofs.Marked.{marked_incarnation, marked_length}
use Rattle.rq_restart.proofs.Repeated.{next_in}
use Rattle.rq_analysis.proofs.Whole.{whole_logs}
use Rattle.rq_restart.specs.Repeating.{Belongs}

-- pages that fit a whole log, and hold what it leaves
pub record HoldsLog (z : Sizes) (images : List (List ℕ)) (log : List Record) : Type 0 where
  pub whole : IsWhole z log
  pub slots : (a : ℕ) → slots_in z images a ≡ (left_by z log).slots a
  pub fits : FitsLog z (image_in images) log

-- of such pages the next record of a whole log belongs there, and its write is made in them
module _ (z : Sizes) (images : List (List ℕ)) (log : List Record) (r : Record) (h : HoldsLog z images log) (w : IsWhole z (r ∷ log)) where
  abbrev grown : List Record
  grown = r ∷ log

  here : oldest (length log) grown ≡ log
  here = ap (λ n. drop n grown) (let e : length grown - length log ≡ 1 = omega arith in e)

  grows : oldest (length log + 1) grown ≡ r ∷ oldest (length log) grown
  grows = ap (λ n. drop n grown) (let e : length grown - (length log + 1) ≡ 0 = omega arith in e) ∙ ap (λ l. r ∷ l) (sym here)

  up_to : FitsUpTo z (image_in images) grown (length log)
  up_to p low high = record {
    fits = page_fits_more z r log p (image_in images p) (h.fits.pages p low high);
    caught_up = λ le. subst (λ l. HoldsPage z p (image_in images p) l) (sym here) (λ n from to. sym (slot_holds z images p n from to) ∙ h.slots (address p n));
  }

  pub belongs_next : is_base r ≡ false → Belongs z (marked log) r (image_in images)
  belongs_next plain = record {
    next = next_in (marked log) r plain (subst (λ (i : ℕ). IsNext i r) (sym (marked_incarnation log)) w.order.0);
    follows = whole_logs.one z log r w plain;
    may = subst (λ (n : ℕ). MayRedo z (image_in images) (n + 1) r) (sym (marked_length log w.based.1)) (may_redo z grown (image_in images) (length log) r w.legal w.in_store w.befores (omega arith) grows up_to);
  }

  up_to_now : (now : ℕ → List ℕ) → Redoes (told_by r) (length log + 1) (image_in images) now → FitsUpTo z now grown (length log + 1)
  up_to_now now redo = redo_one z grown (length log) r grows (omega arith) w.in_store.0 (image_in images) now redo up_to

  pub holds_next : (now : List (List ℕ)) → IsPool z now → Redoes (told_by r) (length log + 1) (image_in images) (image_in now) → HoldsLog z now grown
  holds_next now pool redo =
      let f : FitsUpTo z (image_in now) grown (length grown) = subst (λ n. FitsUpTo z (image_in now) grown n) (let e : length log + 1 ≡ length grown = omega arith in e) (up_to_now (image_in now) redo) in
      record {
        whole = w;
        slots = redone_slots z grown now w.in_store f;
        fits = record { superblock = pool.superblock; headers = pool.headers; pages = λ p low high. (f p low high).fits };
      }

module _ (base : State) (images now : List (List ℕ)) (log : List Record) (t : Txn) (n : ℕ) (w : SlotWrite) (h : HoldsLog base.sizes images log) (whole : IsWhole base.sizes (page_op t n w ∷ log)) (pool : IsPool base.sizes now)
    (redo : Redoes (told_by (page_op t n w)) (length log + 1) (image_in images) (image_in now)) where
  in_page : (1 ≤ w.at / 16) × (w.at / 16 < page_count base.sizes)
  in_page = page_of_slot base.sizes (w.at / 16) (w.at % 16) w.after whole.in_store.0

  pub put_next : IsPutIn (showing base images log) w now
  put_next =
      let then = holds_next base.sizes images log (page_op t n w) h whole now pool redo in
      record {
        image = λ a.
            let x = held_in base.sizes (w.at / 16) w.after in
            then.slots a ∙ put_agree (left_by base.sizes log).slots (slots_in base.sizes images) (address (w.at / 16) (w.at % 16)) x a (sym (h.slots a))
            ∙ ap (λ at. put (slots_in base.sizes images) at x a) (address_is w.at);
        page = redo.made (let f : lsn_of (image_in images (w.at / 16)) ≤ length log = (h.fits.pages (w.at / 16) in_page.0 in_page.1).within in omega (arith, f));
        others = redo.others;
        superblock = pool.superblock;
        headers = pool.headers;
      }

-- the pages and the log of a store that moves came to
module _ (base : State) (k : IsSound base) (stores : List State) (images : List (List ℕ)) (log : List Record) (c : IsCome base stores images log) where
  abbrev s : State
  s = newest_store base stores

  sound : IsSound s
  sound = moves_sound base stores k (behind base stores c.turns)

  sizes : s.sizes ≡ base.sizes
  sizes = moves_sizes base stores (behind base stores c.turns)

  holds : HoldsLog s.sizes s.images s.records
  holds = record { whole = sound.log; slots = sound.pages; fits = sound.fits }

  pub come_holds : HoldsLog base.sizes images log
  come_holds = subst (HoldsLog base.sizes images) c.records_are (subst (λ i. HoldsLog base.sizes i s.records) c.images_are (subst (λ y. HoldsLog y s.images s.records) sizes holds))

-- so it is between two inverses, and within one
pub between_holds : (base : State) (images : List (List ℕ)) (log : List Record) → IsSound base → IsBetween base images log → HoldsLog base.sizes images log
between_holds base images log k b = come_holds base k b.stores images log b.come

module _ (base : State) (images : List (List ℕ)) (log : List Record) (t : Txn) (n lsn : ℕ) (deed : Deed) (ws : List SlotWrite) (made : ℕ) (k : IsSound base) (i : IsWithin base images log t n lsn deed ws made) where
  pub within_holds : HoldsLog base.sizes images log
  within_holds = come_holds base k i.stores images log i.come
