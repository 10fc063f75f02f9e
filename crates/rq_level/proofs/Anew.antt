-- What a level keeps is what the slots, read anew, would give.
use Rattle.std.proofs.Common.{◌≡◌, ◌≢◌, if◌then◌else◌, not, cond, ℕ, List, [], ◌∷◌, ◌++◌, map, Bool, All, refl, sym, ap, ◌∙◌, subst, inl, inr}
use Rattle.std.specs.List.{AllByRecursion}
use Rattle.std.proofs.lemmas.Bool.{cases_eq, eq-eqb, ne_eqb}
use Rattle.std.proofs.lemmas.List.Elements.{recursion_from_All}
use Rattle.rq_model.specs.Vocabulary.{In}
use Rattle.rq_level.specs.Asked.{MayChoose, noted_each, written_at}
use Rattle.rq_level.specs.LevelState.{LevelState}
use Rattle.rq_level.specs.Lawful.{IsLawful}
use Rattle.rq_level.specs.Meaning.{Meaning}
use Rattle.rq_level.specs.OwnState.{AreAmong, IsAnew, KeepsAnew, with_bytes, without}
use Rattle.rq_level.specs.declared.writes.SlotWrite.{SlotWrite}
use Rattle.rq_level.proofs.Based.{each_in}

module _ (level : ℕ) (m : Meaning) (lawful : IsLawful level m) where
  abbrev Far : List ℕ → Type 0
  Far places = AllByRecursion (λ (a : ℕ). a ≢ 1) places

  -- the slots as they are are noted in any order
  swapped : (q : ℕ → List ℕ) (k : LevelState) (a b : ℕ) → a ≢ 1 → b ≢ 1 → m.note (m.note k a (q a)) b (q b) ≡ m.note (m.note k b (q b)) a (q a)
  swapped q k a b na nb = elim (cases_eq a b) [
    | inl e ↦ subst (λ n. m.note (m.note k a (q a)) n (q n) ≡ m.note (m.note k n (q n)) a (q a)) e refl
    | inr ne ↦ lawful.commutes k a b (q a) (q b) na nb ne
  ]

  one_last : (q : ℕ → List ℕ) (places : List ℕ) (k : LevelState) (a : ℕ) → a ≢ 1 → Far places → noted_each m q places (m.note k a (q a)) ≡ m.note (noted_each m q places k) a (q a)
  one_last q [] k a na far = refl
  one_last q (b ∷ places) k a na far = ap (noted_each m q places) (swapped q k a b na far.0) ∙ one_last q places (m.note k b (q b)) a na far.1

  all_last : (q : ℕ → List ℕ) (xs ys : List ℕ) (k : LevelState) → Far xs → Far ys → noted_each m q ys (noted_each m q xs k) ≡ noted_each m q xs (noted_each m q ys k)
  all_last q [] ys k fx fy = refl
  all_last q (x ∷ xs) ys k fx fy = all_last q xs ys (m.note k x (q x)) fx.1 fy ∙ ap (noted_each m q xs) (one_last q ys k x fx.0 fy)

  -- to note a slot again changes nothing
  one_again : (q : ℕ → List ℕ) (places : List ℕ) (k : LevelState) (a : ℕ) → Far places → In a places → m.note (noted_each m q places k) a (q a) ≡ noted_each m q places k
  one_again q [] k a far i = absurd i
  one_again q (b ∷ places) k a far i = elim i [
    | inl e ↦
        ap (λ n. m.note (noted_each m q places (m.note k b (q b))) n (q n)) e
        ∙ sym (one_last q places (m.note k b (q b)) b far.0 far.1)
        ∙ ap (noted_each m q places) (lawful.last k b (q b) (q b))
    | inr j ↦ one_again q places (m.note k b (q b)) a far.1 j
  ]

  all_again : (q : ℕ → List ℕ) (xs places : List ℕ) (k : LevelState) → Far places → AllByRecursion (λ a. In a places) xs → noted_each m q xs (noted_each m q places k) ≡ noted_each m q places k
  all_again q [] places k far h = refl
  all_again q (x ∷ xs) places k far h = ap (noted_each m q xs) (one_again q places k x far h.0) ∙ all_again q xs places k far h.1

  joined : (q : ℕ → List ℕ) (xs ys : List ℕ) (k : LevelState) → noted_each m q (xs ++ ys) k ≡ noted_each m q ys (noted_each m q xs k)
  joined q [] ys k = refl
  joined q (x ∷ xs) ys k = joined q xs ys (m.note k x (q x))

  -- a slot that is written and noted
  module _ (q : ℕ → List ℕ) (a : ℕ) (x : List ℕ) (na : a ≢ 1) where
    abbrev r : ℕ → List ℕ
    r = with_bytes q a x

    r_here : (b : ℕ) → b ≡ a → r b ≡ x
    r_here b e = ap (λ (t : Bool). if t then x else q b) (eq-eqb b a e)

    r_there : (b : ℕ) → b ≢ a → r b ≡ q b
    r_there b ne = ap (λ (t : Bool). if t then x else q b) (ne_eqb b a ne)

    -- at the place where it stands, among others
    moved : (places : List ℕ) (k : LevelState) → Far places → noted_each m r places (m.note k a x) ≡ m.note (noted_each m q places k) a x
    moved [] k far = refl
    moved (b ∷ places) k far = elim (cases_eq b a) [
      | inl e ↦
          ap (λ n. noted_each m r places (m.note (m.note k a x) n (r b))) e ∙ ap (λ y. noted_each m r places (m.note (m.note k a x) a y)) (r_here b e)
          ∙ ap (noted_each m r places) (lawful.last k a x x ∙ sym (lawful.last k a (q b) x))
          ∙ moved places (m.note k a (q b)) far.1 ∙ ap (λ n. m.note (noted_each m q places (m.note k n (q b))) a x) (sym e)
      | inr ne ↦
          ap (λ y. noted_each m r places (m.note (m.note k a x) b y)) (r_there b ne)
          ∙ ap (noted_each m r places) (lawful.commutes k a b x (q b) na far.0 (λ e. ne (sym e)))
          ∙ moved places (m.note k b (q b)) far.1
    ]

    -- as one of those that are noted
    written : (places : List ℕ) (k : LevelState) → Far places → In a places → noted_each m r places k ≡ m.note (noted_each m q places k) a x
    written [] k far i = absurd i
    written (b ∷ places) k far i = elim (cases_eq b a) [
      | inl e ↦
          ap (λ n. noted_each m r places (m.note k n (r b))) e ∙ ap (λ y. noted_each m r places (m.note k a y)) (r_here b e)
          ∙ ap (noted_each m r places) (sym (lawful.last k a (q b) x))
          ∙ moved places (m.note k a (q b)) far.1 ∙ ap (λ n. m.note (noted_each m q places (m.note k n (q b))) a x) (sym e)
      | inr ne ↦ ap (λ y. noted_each m r places (m.note k b y)) (r_there b ne) ∙ written places (m.note k b (q b)) far.1 (elim i [ inl e ↦ absurd (ne (sym e)) | inr j ↦ j ])
    ]

    -- and not again
    dropped : (places : List ℕ) (k : LevelState) → Far places → noted_each m r (without a places) (m.note k a x) ≡ m.note (noted_each m q places k) a x
    dropped [] k far = refl
    dropped (b ∷ places) k far = elim (cases_eq b a) [
      | inl e ↦
          ap (λ (t : Bool). noted_each m r (cond (not t) (b ∷ without a places) (without a places)) (m.note k a x)) (eq-eqb b a e)
          ∙ ap (noted_each m r (without a places)) (sym (lawful.last k a (q b) x))
          ∙ dropped places (m.note k a (q b)) far.1 ∙ ap (λ n. m.note (noted_each m q places (m.note k n (q b))) a x) (sym e)
      | inr ne ↦
          ap (λ (t : Bool). noted_each m r (cond (not t) (b ∷ without a places) (without a places)) (m.note k a x)) (ne_eqb b a ne)
          ∙ ap (λ y. noted_each m r (without a places) (m.note (m.note k a x) b y)) (r_there b ne)
          ∙ ap (noted_each m r (without a places)) (lawful.commutes k a b x (q b) na far.0 (λ e. ne (sym e)))
          ∙ dropped places (m.note k b (q b)) far.1
    ]

  module _ (opened : LevelState) (all : List ℕ) (apart : All (λ (a : ℕ). a ≢ 1) all) where
    far : Far all
    far = recursion_from_All (λ (a : ℕ). a ≢ 1) all apart

    far_of : (xs : List ℕ) → AllByRecursion (λ a. In a all) xs → Far xs
    far_of [] h = tt
    far_of (x ∷ xs) h = (each_in (λ (a : ℕ). a ≢ 1) all far x h.0, far_of xs h.1)

    -- once the slots of a plan were noted, it is forgotten
    ended : (q : ℕ → List ℕ) (k after : LevelState) (ws : List SlotWrite) → MayChoose m k ws after
        → noted_each m q (map (λ (w : SlotWrite). w.at) ws) after ≡ noted_each m q (map (λ (w : SlotWrite). w.at) ws) k
    ended q k after [] may = may
    ended q k after (w ∷ ws) may = elim may [
      | inl e ↦ ap (noted_each m q (map (λ (x : SlotWrite). x.at) (w ∷ ws))) e
      | inr c ↦ ap (noted_each m q (map (λ (x : SlotWrite). x.at) ws)) (c.back (q w.at))
    ]

    planned : (k after : LevelState) (q : ℕ → List ℕ) (left places : List ℕ) → AreAmong all left → AreAmong all places → IsAnew m opened all k q left → noted_each m q places after ≡ noted_each m q places k → IsAnew m opened all after q (places ++ left)
    planned k after q left places inside among h ended =
        let these = recursion_from_All (λ (a : ℕ). In a all) places among in
        joined q places left after ∙ ap (noted_each m q left) ended
        ∙ all_last q places left k (far_of places these) (far_of left (recursion_from_All (λ (a : ℕ). In a all) left inside))
        ∙ ap (noted_each m q places) h ∙ all_again q places all opened far these

    pub keeps_anew : KeepsAnew m opened all
    keeps_anew = record {
      plans = λ q left k job given latched p after m inside among h. planned k after q left (written_at p) inside among h (ended q k after p.writes.items (lawful.chooses k job given latched p after m));
      undoes = λ q left k told given latched p after m inside among h. planned k after q left (written_at p) inside among h (ended q k after p.writes.items (lawful.chooses_undo k told given latched p after m));
      notes = λ k q left a x inside i h.
          let na : a ≢ 1 = each_in (λ (a : ℕ). a ≢ 1) all far a i in
          dropped q a x na left k (far_of left (recursion_from_All (λ (b : ℕ). In b all) left inside)) ∙ ap (λ l. m.note l a x) h ∙ sym (written q a x na all opened far i);
    }
