use Rattle.std.proofs.Common.{◌≡◌, ◌+◌, ◌-◌, true, false, length, take, drop, sym, refl, arith, rules}
use Rattle.std.specs.Prelude.{nat_lt, slice_index, Some}
use Rattle.std.proofs.lemmas.Bool.Decides.{nat_tests}
use Rattle.rq_wire.specs.declared.look.Prefix.TheVariants.{Frame}
use Rattle.rq_wire.specs.Looks.{is_size, is_kind, whole_frame, request_in}
use Rattle.rq_wire.proofs.Fronts.{picked}
use Rattle.rq_wire.proofs.look.look_behind.Goals as goal

pub returns-in-Some : goal.returns-in-Some
returns-in-Some c =
    let bytes = c.args.bytes.now in
    let n = c.args.count in
    let sized : is_size n ≡ true = grind (arith, nat_tests) in
    let bare : nat_lt (length bytes) 3 ≡ false = grind (arith, nat_tests) in
    let known : is_kind (slice_index bytes 2) ≡ true = grind (arith, nat_tests) in
    let cut : nat_lt (length bytes) (2 + n) ≡ false = grind (arith, nat_tests) in
    let found : request_in (slice_index bytes 2) (take (n - 1) (drop 3 bytes)) ≡ Some c.in-Some.request =
    search rules in
    sym (picked false (is_size n) (nat_lt (length bytes) 3) (is_kind (slice_index bytes 2)) (nat_lt (length bytes) (2
    + n))
    (whole_frame (request_in (slice_index bytes 2) (take (n - 1) (drop 3 bytes))) (2 + n)) (Frame c.in-Some.request
    (2 + n))
    refl sized bare known cut (rw found refl))
