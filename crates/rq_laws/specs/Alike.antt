-- When two stores are in the same state: but for how slots that are to be written are spelled.
use Rattle.std.specs.Prelude.{◌≡◌, ℕ, ◌≤◌, Bool, List, [], Option, Some, None, map, reverse}
use Rattle.rq_model.specs.declared.txn.Sub.{Sub}
use Rattle.rq_model.specs.declared.txn.Txn.{Txn}
use Rattle.rq_page.specs.Pages.{header_of, lsn_of, rest_of_header, slot_of}
use Rattle.rq_page.specs.Sizes.{Sizes}
use Rattle.rq_views.specs.Log.{Write}
use Rattle.rq_views.specs.Stored.{slots_in}
use Rattle.rq_level.specs.Writes.{writes_of}
use Rattle.rq_txn.specs.declared.Aim.{Aim}
use Rattle.rq_txn.specs.declared.Finished.{Finished}
use Rattle.rq_txn.specs.Rows.{Row, Under}
use Rattle.rq_store.specs.State.{State}
use Rattle.rq_engine.specs.Opened.{OpenStore}

-- an operation under way, its writes over what the slots hold, the newest first
pub record UnderTold : Type 0 where
  pub number : ℕ
  pub writes : List Write
  pub made : ℕ
  pub aim : Aim

pub record RowTold : Type 0 where
  pub txn : Txn
  pub aborting : Bool
  pub finished : List Finished
  pub number : ℕ
  pub under : Option UnderTold

abbrev pub under_told : Sizes → Under → UnderTold
under_told z u = record { number = u.number; writes = reverse (writes_of z u.writes); made = u.made; aim = u.aim }

abbrev pub under_way_told : Sizes → Option Under → Option UnderTold
under_way_told z None = None
under_way_told z (Some u) = Some (under_told z u)

abbrev pub row_told : Sizes → Row → RowTold
row_told z r = record {
  txn = r.txn;
  aborting = r.aborting;
  finished = r.finished;
  number = r.number;
  under = under_way_told z r.under;
}

-- the same state, but for how the slots of planned writes are spelled
pub record AreAlike (a b : State) : Type 0 where
  pub lists : record a { rows = [] } ≡ record b { rows = [] }
  pub rows : map (row_told a.sizes) a.rows ≡ map (row_told b.sizes) b.rows

-- the same state, but for the bytes of pages: their slots hold the same
pub record HoldAlike (a b : State) : Type 0 where
  pub lists : record a { images = [] } ≡ record b { images = [] }
  pub slots : (at : ℕ) → slots_in a.sizes a.images at ≡ slots_in b.sizes b.images at

-- the same lists but for images, and the same log: pages were perhaps read
pub record LeftAlike {P L : Type 0} (a b : OpenStore P L) : Type 0 where
  pub lists : record a.state { images = [] } ≡ record b.state { images = [] }
  pub log : a.log ≡ b.log
  pub replacing : a.replacing ≡ b.replacing

-- the same operation was started, or none, and the state is the same but for what it is about
pub record StartedAlike (p q : Option Sub) (a b : State) : Type 0 where
  pub sub : p ≡ q
  pub lists : record a { rows = []; ends = record { sending = a.ends.sending; receiving = [] } }
      ≡ record b { rows = []; ends = record { sending = b.ends.sending; receiving = [] } }

-- two pages have the same slots
abbrev pub HoldSlotsAlike : List ℕ → List ℕ → Type 0
HoldSlotsAlike p q = (k : ℕ) → 1 ≤ k → k ≤ 15 → slot_of k p ≡ slot_of k q

-- and the same header, with the LSN in it
abbrev pub ReadAlike : List ℕ → List ℕ → Type 0
ReadAlike p q = (header_of p ≡ header_of q) × HoldSlotsAlike p q

-- the same LSN, the same header behind it and the same slots
pub record PagesAlike (p q : List ℕ) : Type 0 where
  pub lsn : lsn_of p ≡ lsn_of q
  pub header : rest_of_header p ≡ rest_of_header q
  pub slots : HoldSlotsAlike p q
