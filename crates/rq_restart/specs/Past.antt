-- What may have stood where a log, as it was read, has marks.
use Rattle.std.specs.Prelude.{◌≡◌, List}
use Rattle.rq_model.specs.declared.record.Record.{Record}
use Rattle.rq_model.specs.Bases.{marked}
use Rattle.rq_disk.specs.Device.{Images}
use Rattle.rq_page.specs.Sizes.{Sizes}
use Rattle.rq_store.specs.Opening.{IsLeft}
use Rattle.rq_engine.specs.Earlier.{rebased}

-- with these records in the place of its marks it is a log that reads so
abbrev pub IsPast : List Record → List Record → Type 0
IsPast e log = marked (rebased e log) ≡ log

-- wherever the pages and the log, with such records, are those of a store that was left so
abbrev pub WhereLeft : Sizes → Images → List Record → (List Record → Type 0) → Type 0
WhereLeft z image log Q = (e : List Record) → IsPast e log → IsLeft z image (rebased e log) → Q e
