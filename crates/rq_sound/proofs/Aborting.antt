-- A transaction starts to abort, and ends once all that it did is undone.
use Rattle.std.proofs.Common.{◌≡◌, ℕ, ◌≤◌, List, [], ◌∷◌, refl, sym, ◌∙◌, ap, subst, false, Option, Some, None}
use Rattle.std.proofs.lemmas.Bool.{true≢false, or_from, or_left}
use Rattle.rq_model.specs.declared.txn.Txn.{Txn}
use Rattle.rq_model.specs.declared.record.Record.{Record}
use Rattle.rq_model.specs.declared.record.Record.TheVariants.{AbortEnd as AbortEnd_record}
use Rattle.rq_model.specs.Vocabulary.{same_txn}
use Rattle.rq_model.specs.Content.{has_end}
use Rattle.rq_model.proofs.Lists.{same_self, same_is}
use Rattle.rq_page.specs.Sizes.{Sizes}
use Rattle.rq_views.specs.Log.Item.{AbortEnd}
use Rattle.rq_views.specs.Items.{items, layout_of, operation}
use Rattle.rq_views.specs.Legal.{MayFollow, open_deeds, under_way}
use Rattle.rq_views.proofs.Holders.{not_txn}
use Rattle.rq_groups.specs.Ends.{HeldEnds}
use Rattle.rq_model.specs.Incarnations.{incarnation_of}
use Rattle.rq_store.specs.Rows.{placed, is_under}
use Rattle.rq_store.specs.Settled.{IsSettled}
use Rattle.rq_store.specs.Whole.{IsWhole}
use Rattle.rq_txn.specs.Rows.{Under, Row, found_row, change_row, without_row, row_aborting}
use Rattle.rq_sound.specs.Standing.{IsAsPlanned, IsRow, AreStanding}
use Rattle.rq_sound.specs.Counted.{AreCounted}
use Rattle.rq_store.proofs.Ends.{without_ends}
use Rattle.rq_sound.proofs.Going.{other_gone}
use Rattle.rq_sound.proofs.Beside.{SaysSame, says_abort}
use Rattle.rq_sound.proofs.Counted.{counted_abort, counted_aborting}
use Rattle.rq_sound.proofs.OwnRecord.{row, of_order, running}
use Rattle.rq_sound.proofs.Standings.{stands_changed, stands_gone}

module _ (z : Sizes) (log : List Record) (ends : HeldEnds) (rows : List Row) (i b cells : ℕ) (waiting : List ℕ) (whole : IsWhole z log) (k : AreStanding z log ends rows i b) (c : AreCounted z log rows cells waiting)
    (incarnation : incarnation_of log ≡ i) (some : 1 ≤ i) (r : Row) (at_row : found_row r.txn rows ≡ Some r) (idle : r.under ≡ None) where
  abbrev t : Txn
  t = r.txn

  own : IsRow z log ends i b r
  own = row z log ends rows i b k incarnation some r at_row

  same : (q : Txn) → SaysSame z log log q
  same q = record { running = refl; earlier_is = refl; undone = refl; done = refl; told = refl; greatest_is = refl; under_way_is = λ n. refl }

  none_some : (v : Under) → r.under ≡ Some v → ⊥
  none_some v e = let bad : ◌≡◌ {A = Option Under} None (Some v) = sym idle ∙ e in cc

  -- it starts to abort; nothing is logged
  own_aborting : IsRow z log ends i b (row_aborting r)
  own_aborting = record {
    of_incarnation = own.of_incarnation;
    counted = own.counted;
    running = own.running;
    forward = λ e. absurd (true≢false e);
    done = own.done;
    held = record { sends = own.held.sends; takes = own.held.takes };
    behind = own.behind;
    numbered = own.numbered;
    idle = own.idle;
    going = subst (IsAsPlanned z log ends (row_aborting r)) (sym idle) tt;
  }

  pub stands_aborting : AreStanding z log ends (change_row t row_aborting rows) i b
  stands_aborting = stands_changed z log log ends rows i b k t r row_aborting at_row (λ q. refl) (λ q n. same q) (λ q j n v e h. h) own_aborting (λ v e. absurd (none_some v e)) (λ q n h. h)

  pub counts_aborting : AreCounted z log (change_row t row_aborting rows) cells waiting
  counts_aborting = counted_aborting z log rows cells waiting t r c k.distinct at_row

  own_idle : (n : ℕ) → under_way (operation t n) (items z log) ≡ false
  own_idle n = own.idle n (ap (is_under n) idle)

  -- it ends
  module _ (empty : r.finished ≡ []) where
    abbrev x : Record
    x = AbortEnd_record t

    nothing : open_deeds t (items z log) ≡ []
    nothing = own.done ∙ ap placed empty

    may : MayFollow (layout_of z) (items z log) (AbortEnd t)
    may = record {
      idle = λ o e. ap (λ (q : Txn). under_way (operation q o.number) (items z log)) e ∙ own_idle o.number;
      running = running z log ends rows i b k incarnation some r at_row;
      empty = nothing;
    }

    pub whole_abort : IsWhole z (x ∷ log)
    whole_abort = record {
      legal = (may, whole.legal);
      told = (tt, whole.told);
      rules = (tt, (λ v e. ap (has_end log) (sym (same_is t v e)) ∙ own.running), whole.rules);
      reads = (tt, whole.reads);
      in_store = (tt, whole.in_store);
      befores = (tt, whole.befores);
      based = (tt, whole.based);
      behind = (own.behind, whole.behind);
      order = (of_order z log ends rows i b k incarnation some r at_row, whole.order);
      room = (tt, whole.room);
      numbers = (tt, whole.numbers);
    }

    settled_own : IsSettled z (x ∷ log) t
    settled_own = record {
      settled = nothing;
      unused = λ live. absurd (true≢false (sym (or_left (same_txn t t) (has_end log t) (same_self t)) ∙ live));
      idle = own_idle;
    }

    pub stands_abort : AreStanding z (x ∷ log) (without_ends t ends) (without_row t rows) i b
    stands_abort = stands_gone z log (x ∷ log) ends rows i b k t r at_row (λ q n. says_abort z log t q (not_txn t q n)) (λ q u h g. (other_gone z log ends (without_ends t ends) q u t h g).1) settled_own (λ q n h. or_from _ _ (not_txn t q n) h)

    pub counts_abort : AreCounted z (x ∷ log) (without_row t rows) cells waiting
    counts_abort = counted_abort z log rows cells waiting t r c k.distinct at_row idle empty
