-- Why chains were not checked.
use Rattle.std.specs.Prelude.{◌≡◌}
use Rattle.rq_model.specs.declared.refusal.Refusal.{Refusal}
use Rattle.rq_model.specs.declared.refusal.Refusal.TheVariants as why
use Rattle.rq_disk.specs.declared.device.PageDevice.{Ghosts}
use Rattle.rq_pool.specs.Pooled.{Pooled}
use Rattle.rq_pool.specs.Fetching.{IsUnread}

-- Why chains were not checked: memory was wanting before any page was looked at, or one was not read.
abbrev pub ChecksNot : {P : Type 0} → Ghosts P → Pooled P → Refusal → Pooled P → Type 0
ChecksNot g old why.NoMemory new = new ≡ old
ChecksNot g old e new = IsUnread g old e new
