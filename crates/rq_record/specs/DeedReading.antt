-- How a deed is read, field by field.
use Rattle.std.specs.Prelude.{ℕ, ◌==◌, nat_le, if◌then◌else◌, List, [], ◌∷◌, length, Option, Some, None, Result, Ok, Err}
use Rattle.rq_model.specs.declared.record.Deed.{Deed}
use Rattle.rq_model.specs.declared.record.Deed.TheVariants.{Append, UnlinkHead, Close, Mark}
use Rattle.rq_record.specs.declared.reading.Stop.{Stop}
use Rattle.rq_record.specs.declared.reading.Stop.TheVariants.{Short, Bad}
use Rattle.rq_record.specs.Reading.{◌>>=◌, number_at, positive_at}

unfoldable pub append_at : List ℕ → Result Deed Stop
append_at bytes =
    number_at 4 bytes >>= λ sender. positive_at 8 sender.1 >>= λ sequence. number_at 8 sequence.1 >>= λ tag.
    number_at 8 tag.1 >>= λ previous.
    if nat_le (length previous.1) 216 then Ok (Append sender.0 sequence.0 tag.0 previous.0 previous.1) else Err Bad

unfoldable pub unlink_head_at : List ℕ → Result Deed Stop
unlink_head_at bytes =
    number_at 4 bytes >>= λ sender. positive_at 8 sender.1 >>= λ sequence. number_at 8 sequence.1 >>= λ tag.
    if nat_le (length tag.1) 216 then Ok (UnlinkHead sender.0 sequence.0 tag.0 tag.1) else Err Bad

unfoldable pub close_at : List ℕ → Result Deed Stop
close_at bytes = number_at 4 bytes >>= λ sender. if length sender.1 == 0 then Ok (Close sender.0) else Err Bad

unfoldable pub mark_at : List ℕ → Result Deed Stop
mark_at bytes =
    number_at 4 bytes >>= λ client. number_at 8 client.1 >>= λ tag. number_at 8 tag.1 >>= λ previous.
    if length previous.1 == 0 then Ok (Mark client.0 tag.0 previous.0) else Err Bad

-- a deed of tags
unfoldable pub tag_deed_at : List ℕ → Result Deed Stop
tag_deed_at [] = Err Short
tag_deed_at (kind ∷ rest) = if kind == 1 then mark_at rest else Err Bad

-- a deed of chains
unfoldable pub deed_at : List ℕ → Result Deed Stop
deed_at [] = Err Short
deed_at (kind ∷ rest) =
    if kind == 1 then append_at rest else
    if kind == 2 then unlink_head_at rest else
    if kind == 3 then close_at rest else
    Err Bad

-- the deed that was read
abbrev pub deed_of : Result Deed Stop → Option Deed
deed_of (Ok deed) = Some deed
deed_of (Err stop) = None
