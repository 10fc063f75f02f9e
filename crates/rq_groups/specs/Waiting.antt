-- How many messages of each sender wait, as a list by sender.
use Rattle.std.specs.Prelude.{ℕ, ◌+◌, ◌-◌, List, slice_index, slice_set}

-- how many messages wait of s: none beyond the end
abbrev pub waits : List ℕ → ℕ → ℕ
waits ws s = slice_index ws s

-- n messages more wait of s
abbrev pub more_waiting : ℕ → ℕ → List ℕ → List ℕ
more_waiting s n ws = slice_set ws s (waits ws s + n)

-- one message less waits of s
abbrev pub fewer_waiting : ℕ → List ℕ → List ℕ
fewer_waiting s ws = slice_set ws s (waits ws s - 1)
