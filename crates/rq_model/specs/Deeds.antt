-- How deeds stand in bytes, and which level's they are.
use Rattle.std.specs.Prelude.{◌≡◌, ℕ, ◌+◌, cond, ◌&&◌, not, List, [], ◌∷◌, ◌++◌, Option, Some, None, nat_eq, nat_lt, length, drop}
use Rattle.byteorder.specs.Endian.{big_bytes, big_number}
use Rattle.rq_model.specs.declared.record.Deed.{Deed}
use Rattle.rq_model.specs.declared.record.Deed.TheVariants.{Append, UnlinkHead, Close, Mark}

-- the bytes of a deed: its kind, and its fields
abbrev pub spelled_deed : Deed → List ℕ
spelled_deed (Append sender sequence tag previous body) =
    1 ∷ (big_bytes 4 sender ++ (big_bytes 8 sequence ++ (big_bytes 8 tag ++ (big_bytes 8 previous ++ body))))
spelled_deed (UnlinkHead sender sequence tag body) = 2
    ∷ (big_bytes 4 sender ++ (big_bytes 8 sequence ++ (big_bytes 8 tag ++ body)))
spelled_deed (Close sender) = 3 ∷ big_bytes 4 sender
spelled_deed (Mark client tag previous) = 1 ∷ (big_bytes 4 client ++ (big_bytes 8 tag ++ big_bytes 8 previous))

-- the fields of each kind, where these bytes are they
abbrev pub append_in : List ℕ → Option Deed
append_in fields =
    let sequence = big_number 8 (drop 4 fields) in
    cond (not (nat_lt (length fields) 28) && not (nat_lt (28 + 216) (length fields)) && nat_lt 0 sequence)
    (Some (Append (big_number 4 fields) sequence (big_number 8 (drop 12 fields)) (big_number 8 (drop 20 fields))
    (drop 28 fields)))
    None

abbrev pub unlink_head_in : List ℕ → Option Deed
unlink_head_in fields =
    let sequence = big_number 8 (drop 4 fields) in
    cond (not (nat_lt (length fields) 20) && not (nat_lt (20 + 216) (length fields)) && nat_lt 0 sequence)
    (Some (UnlinkHead (big_number 4 fields) sequence (big_number 8 (drop 12 fields)) (drop 20 fields)))
    None

abbrev pub close_in : List ℕ → Option Deed
close_in fields = cond (nat_eq (length fields) 4) (Some (Close (big_number 4 fields))) None

abbrev pub mark_fields : List ℕ → Option Deed
mark_fields fields =
    cond (nat_eq (length fields) 20) (Some (Mark (big_number 4 fields) (big_number 8 (drop 4 fields))
    (big_number 8 (drop 12 fields)))) None

-- the deed of tags that these bytes are, if they are one
abbrev pub mark_in : List ℕ → Option Deed
mark_in [] = None
mark_in (kind ∷ fields) = cond (nat_eq kind 1) (mark_fields fields) None

-- the deed of chains that these bytes are, if they are one
abbrev pub deed_in : List ℕ → Option Deed
deed_in [] = None
deed_in (kind ∷ fields) =
    cond (nat_eq kind 1) (append_in fields) (cond (nat_eq kind 2) (unlink_head_in fields)
    (cond (nat_eq kind 3) (close_in fields) None))

-- the level that does it
abbrev pub deed_level : Deed → ℕ
deed_level (Append sender sequence tag previous body) = 1
deed_level (UnlinkHead sender sequence tag body) = 1
deed_level (Close sender) = 1
deed_level (Mark client tag previous) = 2

-- the deed of this level that these bytes are, if they are one
abbrev pub deed_by : (level : ℕ) → List ℕ → Option Deed
deed_by level bytes = cond (nat_eq level 1) (deed_in bytes) (cond (nat_eq level 2) (mark_in bytes) None)

-- its level reads it in its bytes
abbrev pub TellsItself : Deed → Type 0
TellsItself d = deed_by (deed_level d) (spelled_deed d) ≡ Some d
