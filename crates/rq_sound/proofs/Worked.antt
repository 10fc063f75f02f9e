-- What no sound store has.
use Rattle.std.proofs.Common.{◌≡◌, ◌++◌, List, [], ◌∷◌, refl, sym, ◌∙◌, ap, subst, Some, None, arith}
use Rattle.std.proofs.lemmas.Bool.{true≢false}
use Rattle.rq_model.specs.Vocabulary.{In}
use Rattle.rq_model.proofs.Lists.{same_self}
use Rattle.rq_txn.specs.declared.Finished.{Finished}
use Rattle.rq_txn.specs.declared.Aim.{Aim}
use Rattle.rq_txn.specs.Rows.{Under, Row, AreDistinct, found_row}
use Rattle.rq_store.specs.State.{State}
use Rattle.rq_txn.specs.declared.Aim.TheVariants as aims
use Rattle.rq_sound.specs.Standing.{IsAsPlanned, IsAimOf}
use Rattle.rq_sound.specs.Sound.{IsSound}
use Rattle.rq_sound.specs.Worked.{NotSound}

-- what is so of the operation of a row
goes : (s : State) (k : IsSound s) (r : Row) (u : Under) (a : Aim) → In r s.rows → r.under ≡ Some u → u.aim ≡ a → IsAimOf r a
goes s k r u a i under is = subst (IsAimOf r) is (subst (IsAsPlanned s.sizes s.records s.ends r) under (k.standing.each r i).going).2

last_is : {X : Type 0} (xs ys : List X) (x y : X) → xs ++ x ∷ [] ≡ ys ++ y ∷ [] → x ≡ y
last_is [] [] x y e = cc
last_is [] (b ∷ []) x y e = cc
last_is [] (b ∷ c ∷ ys) x y e = cc
last_is (a ∷ []) [] x y e = cc
last_is (a ∷ c ∷ xs) [] x y e = cc
last_is (a ∷ xs) (b ∷ ys) x y e = last_is xs ys x y (let t : xs ++ x ∷ [] ≡ ys ++ y ∷ [] = cc in t)

twice : (r : Row) → AreDistinct (r ∷ r ∷ []) → ⊥
twice r d = let none : found_row r.txn (r ∷ []) ≡ None = d.0 in let some : found_row r.txn (r ∷ []) ≡ Some r = rw (same_self r.txn) refl in let bad : None ≡ Some r = sym none ∙ some in cc

pub not_sound : NotSound
not_sound = record {
  one_page = λ s r q u v p i j ne e f on too k. true≢false (sym too ∙ k.standing.apart r q u v p i j ne e f on);
  one_end = λ s t u g ne h l k. ne (k.standing.sending.one t u g h l);
  does = λ s r u d i under is aborts k. true≢false (sym aborts ∙ goes s k r u (aims.Doing d) i under is);
  undoes = λ s r u lsn d i under is forward k. true≢false (sym (goes s k r u (aims.Undoing lsn d) i under is).0 ∙ forward);
  older = λ s r u lsn d rest f i under is newest ne k.
      let a = (goes s k r u (aims.Undoing lsn d) i under is).1 in
      ne (ap (λ (x : Finished). x.lsn) (last_is rest a.0 f (record { lsn = lsn; number = a.1; deed = d }) (sym newest ∙ a.2)));
  let_go = λ s r g i used none k. true≢false (sym ((k.standing.each r i).held.sends g used) ∙ none);
  counts_more = λ s k l. (let a = k.counted.committed in let b = l.counted.committed in omega (arith, a, b));
  forced_beyond = λ s over k. (let f = k.forced in omega (arith, f, over));
  two_rows = λ s r is k. twice r (subst AreDistinct is k.standing.distinct);
}
