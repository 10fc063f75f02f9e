-- Operations to be planned, as bytes that their level alone reads.
use Rattle.std.specs.Prelude.{ℕ, ◌+◌, ◌&&◌, not, cond, nat_eq, nat_lt, Bool, false, List, [], ◌∷◌, ◌++◌, Option, None, Some, length, drop}
use Rattle.byteorder.specs.Endian.{big_bytes, big_number}

-- what is to be planned: of a level, something to do or a deed to take back
pub record Job : Type 0 where
  pub level : ℕ
  pub undo : Bool
  pub bytes : List ℕ

-- what levels that have deeds can be asked to do
pub data Doing : Type 0 where
  Send : (sender tag : ℕ) → (body : List ℕ) → Doing
  Receive : (sender : ℕ) → Doing
  Close : (sender : ℕ) → Doing

abbrev pub spelled_doing : Doing → List ℕ
spelled_doing (Send s tag body) = 1 ∷ (big_bytes 4 s ++ (big_bytes 8 tag ++ body))
spelled_doing (Receive s) = 2 ∷ big_bytes 4 s
spelled_doing (Close s) = 3 ∷ big_bytes 4 s

-- the fields of each, where these bytes are they
abbrev pub send_in : List ℕ → Option Doing
send_in fields =
    cond (not (nat_lt (length fields) 12) && not (nat_lt (12 + 216) (length fields)))
    (Some (Send (big_number 4 fields) (big_number 8 (drop 4 fields)) (drop 12 fields)))
    None

abbrev pub receive_in : List ℕ → Option Doing
receive_in fields = cond (nat_eq (length fields) 4) (Some (Receive (big_number 4 fields))) None

abbrev pub close_in : List ℕ → Option Doing
close_in fields = cond (nat_eq (length fields) 4) (Some (Close (big_number 4 fields))) None

-- what these bytes ask for, if they ask for anything
abbrev pub doing_in : List ℕ → Option Doing
doing_in [] = None
doing_in (kind ∷ fields) =
    cond (nat_eq kind 1) (send_in fields) (cond (nat_eq kind 2) (receive_in fields) (cond (nat_eq kind 3) (close_in fields) None))

-- what they ask the level of this number for: that of chains is asked so
abbrev pub doing_by : (level : ℕ) → List ℕ → Option Doing
doing_by level bytes = cond (nat_eq level 1) (doing_in bytes) None

-- the level that does it
abbrev pub doing_level : Doing → ℕ
doing_level (Send s tag body) = 1
doing_level (Receive s) = 1
doing_level (Close s) = 1

-- to do this on its level
abbrev pub chain_job : Doing → Job
chain_job d = record { level = doing_level d; undo = false; bytes = spelled_doing d }

-- what the level of tags can be asked to do: to mark a tag for a client
pub record Tagging : Type 0 where
  pub client : ℕ
  pub tag : ℕ

-- the fields of a mark, where these bytes are they
abbrev pub tagging_fields : List ℕ → Option Tagging
tagging_fields fields =
    cond (nat_eq (length fields) 12) (Some (record { client = big_number 4 fields; tag = big_number 8 (drop 4 fields) }))
    None

-- what these bytes ask that level for
abbrev pub tagging_in : List ℕ → Option Tagging
tagging_in [] = None
tagging_in (kind ∷ fields) = cond (nat_eq kind 1) (tagging_fields fields) None

-- what they ask the level of this number for: that of tags is asked so
abbrev pub tagging_by : (level : ℕ) → List ℕ → Option Tagging
tagging_by level bytes = cond (nat_eq level 2) (tagging_in bytes) None

-- to mark a tag for a client on the level of tags
abbrev pub tag_job : ℕ → ℕ → Job
tag_job client tag = record { level = 2; undo = false; bytes = 1 ∷ (big_bytes 4 client ++ big_bytes 8 tag) }
