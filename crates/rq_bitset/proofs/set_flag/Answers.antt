use Rattle.std.proofs.Common.{◌≡◌, ◌%◌, ◌/◌, ◌*◌, ◌^◌, ℕ, bit_or, slice_set, get_or, subst, sym, arith}
use Rattle.std.proofs.lemmas.List.{get_or_read}
use Rattle.rq_bitset.specs.Flags.{flag_at, OthersStay}
use Rattle.rq_bitset.proofs.Flagged.{flag_at-set_same, flag_at-set_other}
use Rattle.rq_bitset.proofs.set_flag.Goals as goal

pub returns-clause-set : goal.returns-clause-set
returns-clause-set c =
    let ws = c.args.words.now.items in
    let p = c.args.place in
    let read : c.index-word.result.now ≡ get_or ws (p / 64) 0 = get_or_read ws (p / 64) c.index-word.result.now (omega arith) c.index-word.ensures 0 in
    subst (λ (n : ℕ). flag_at (slice_set ws (p / 64) (bit_or n (1 * 2 ^ (p % 64) % 2 ^ 64))) p ≡ 1) (sym read) (flag_at-set_same ws p c.requires)

pub returns-clause-others : goal.returns-clause-others
returns-clause-others c =
    let ws = c.args.words.now.items in
    let p = c.args.place in
    let read : c.index-word.result.now ≡ get_or ws (p / 64) 0 = get_or_read ws (p / 64) c.index-word.result.now (omega arith) c.index-word.ensures 0 in
    subst (λ (n : ℕ). OthersStay p ws (slice_set ws (p / 64) (bit_or n (1 * 2 ^ (p % 64) % 2 ^ 64)))) (sym read) (flag_at-set_other ws p c.requires)
