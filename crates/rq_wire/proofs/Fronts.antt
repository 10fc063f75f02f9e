-- A frame or a fault that stands at the front stays there when bytes come behind it.
use Rattle.std.proofs.Common.{◌≡◌, ℕ, ◌+◌, ◌-◌, ◌<◌, ◌≤◌, Bool, true, false, List, [], ◌∷◌, ◌++◌, length, take, drop, refl, sym, ap, ◌∙◌, subst, arith, length-append}
use Rattle.std.specs.Prelude.{nat_lt, slice_index, Option, Some, None}
use Rattle.std.proofs.lemmas.List.{take-append-le, drop-append-le, length-drop}
use Rattle.std.proofs.lemmas.Bool.{ltb-false, le-ltb}
use Rattle.std.proofs.Math.Seq.{drop-append_seam}
use Rattle.byteorder.specs.Numbers.{big_from-append}
use Rattle.rq_bytes.specs.Number.{number_at}
use Rattle.rq_wire.specs.declared.request.Request.{Request}
use Rattle.rq_wire.specs.declared.look.Prefix.{Prefix}
use Rattle.rq_wire.specs.declared.look.Prefix.TheVariants.{Frame, Fault}
use Rattle.rq_wire.specs.Looks.{pick, is_size, is_kind, whole_frame, request_in, looks}
use Rattle.rq_wire.specs.Stream.{Begins, AreRequests, stop}
use Rattle.rq_wire.specs.Notes.{Keeps}

-- what a piece added
pub added : (held : ℕ) (unread piece all : List ℕ) → held ≡ length unread → all ≡ unread ++ piece
    → drop held all ≡ piece
added held unread piece all h e = ap (λ (n : ℕ). drop n all) h ∙ ap (drop (length unread)) e ∙ drop-append_seam unread piece

pub record Picks (s v b k c : Bool) (f : Prefix) (r : Request) (n : ℕ) : Type 0 where
  pub short : s ≡ false
  pub sized : v ≡ true
  pub bare : b ≡ false
  pub known : k ≡ true
  pub cut : c ≡ false
  pub front : f ≡ Frame r n

pub picked : (s v b k c : Bool) (f g : Prefix) → s ≡ false → v ≡ true → b ≡ false → k ≡ true → c ≡ false → f ≡ g
    → pick s v b k c f ≡ g
picked s v b k c f g es ev eb ek ec ef = rw (es, ev, eb, ek, ec) ef

picks : (short sized bare known cut : Bool) (front : Prefix) (r : Request) (n : ℕ)
    → pick short sized bare known cut front ≡ Frame r n → Picks short sized bare known cut front r n
picks true sized bare known cut front r n e = cc e
picks false false bare known cut front r n e = cc e
picks false true true known cut front r n e = cc e
picks false true false false cut front r n e = cc e
picks false true false true true front r n e = cc e
picks false true false true false front r n e = record {
  short = refl;
  sized = refl;
  bare = refl;
  known = refl;
  cut =
      refl;
  front = e;
}

abbrev pub size : List ℕ → ℕ
size bytes = number_at 2 0 bytes

abbrev pub behind : List ℕ → Prefix
behind bytes = whole_frame (request_in (slice_index bytes 2) (take (size bytes - 1) (drop 3 bytes))) (2 + size bytes)

abbrev pub Told : List ℕ → Request → ℕ → Type 0
Told bytes r n = Picks (nat_lt (length bytes) 2) (is_size (size bytes)) (nat_lt (length bytes) 3) (is_kind
    (slice_index bytes 2)) (nat_lt (length bytes) (2 + size bytes)) (behind bytes) r n

pub told : (bytes : List ℕ) (r : Request) (n : ℕ) → looks bytes ≡ Frame r n → Told bytes r n
told bytes r n e = picks (nat_lt (length bytes) 2) (is_size (size bytes)) (nat_lt (length bytes) 3) (is_kind
    (slice_index bytes 2)) (nat_lt (length bytes) (2 + size bytes)) (behind bytes) r n e

whole_size : (o : Option Request) (size : ℕ) (r : Request) (n : ℕ) → whole_frame o size ≡ Frame r n → size ≡ n
whole_size None size r n e = cc e
whole_size (Some q) size r n e = cc e

-- a frame is some bytes, and within what there is
pub frame_fits : (bytes : List ℕ) (r : Request) (n : ℕ) → looks bytes ≡ Frame r n → (0 < n) × (n ≤ length bytes)
frame_fits bytes r n e =
    let p = told bytes r n e in
    let is : 2 + size bytes ≡ n = whole_size (request_in (slice_index bytes 2) (take (size bytes - 1) (drop 3
    bytes))) (2 + size bytes) r n p.front in
    let le : 2 + size bytes ≤ length bytes = ltb-false (length bytes) (2 + size bytes) p.cut in
    (omega (arith, is), omega (arith, is, le))

kind_same : (a b : List ℕ) → 3 ≤ length a → slice_index (a ++ b) 2 ≡ slice_index a 2
kind_same [] b le = absurd (omega (arith, le))
kind_same (x ∷ []) b le = absurd (omega (arith, le))
kind_same (x ∷ y ∷ []) b le = absurd (omega (arith, le))
kind_same (x ∷ y ∷ z ∷ a) b le = refl

-- bytes behind
module _ (a b : List ℕ) where
  number_same : 2 ≤ length a → number_at 2 0 (a ++ b) ≡ number_at 2 0 a
  number_same le = big_from-append 2 a b le

  fields_same : (n : ℕ) → 3 ≤ length a → n - 1 ≤ length (drop 3 a)
      → take (n - 1) (drop 3 (a ++ b)) ≡ take (n - 1) (drop 3 a)
  fields_same n le fits = ap (take (n - 1)) (drop-append-le 3 a b le) ∙ take-append-le (n - 1) (drop 3 a) b fits

behind_same : (a b : List ℕ) → 2 ≤ length a → 3 ≤ length a → 2 + size a ≤ length a → behind (a ++ b) ≡ behind a
behind_same a b two three all =
    let m : size (a ++ b) ≡ size a = number_same a b two in
    let k : slice_index (a ++ b) 2 ≡ slice_index a 2 = kind_same a b three in
    let f : take (size a - 1) (drop 3 (a ++ b)) ≡ take (size a - 1) (drop 3 a) =
    fields_same a b (size a) three (omega (arith, all, length-drop 3 a)) in
    rw (m, k, f) (refl {a = behind a})

-- a frame stays
pub frame_stays : (a b : List ℕ) (r : Request) (n : ℕ) → looks a ≡ Frame r n → looks (a ++ b) ≡ Frame r n
frame_stays a b r n e =
    let p = told a r n e in
    let long : length (a ++ b) ≡ length a + length b = length-append a b in
    let two : 2 ≤ length a = ltb-false (length a) 2 p.short in
    let three : 3 ≤ length a = ltb-false (length a) 3 p.bare in
    let all : 2 + size a ≤ length a = ltb-false (length a) (2 + size a) p.cut in
    let m : size (a ++ b) ≡ size a = number_same a b two in
    let k : slice_index (a ++ b) 2 ≡ slice_index a 2 = kind_same a b three in
    let same : behind (a ++ b) ≡ behind a = behind_same a b two three all in
    picked (nat_lt (length (a ++ b)) 2) (is_size (size (a ++ b))) (nat_lt (length (a ++ b)) 3) (is_kind (slice_index
    (a ++ b) 2)) (nat_lt (length (a ++ b)) (2 + size (a ++ b))) (behind (a ++ b)) (Frame r n)
    (le-ltb (length (a ++ b)) 2 (omega (arith, long, two)))
    (ap is_size m ∙ p.sized)
    (le-ltb (length (a ++ b)) 3 (omega (arith, long, three)))
    (ap is_kind k ∙ p.known)
    (le-ltb (length (a ++ b)) (2 + size (a ++ b)) (omega (arith, long, all, m)))
    (same ∙ p.front)

-- requests stay those at the front
pub begins_longer : (rs : List Request) (a b rest : List ℕ) → Begins rs a rest → Begins rs (a ++ b) (rest ++ b)
begins_longer [] a b rest e = ap (λ (l : List ℕ). l ++ b) e
begins_longer (r ∷ rs) a b rest h =
    let fits = frame_fits a r h.0 h.1 in (
      h.0,
      frame_stays a b r h.0 h.1,
      subst (λ (l : List ℕ). Begins rs l (rest ++ b)) (sym (drop-append-le h.0 a b
          fits.1)) (begins_longer rs (drop h.0 a) b rest h.2),
    )

-- more requests behind
pub begins_more : (rs qs : List Request) (a middle rest : List ℕ) → Begins rs a middle → Begins qs middle rest
    → Begins (rs ++ qs) a rest
begins_more [] qs a middle rest e h = subst (λ (l : List ℕ). Begins qs l rest) (sym e) h
begins_more (r ∷ rs) qs a middle rest h more = (h.0, h.1, begins_more rs qs (drop h.0 a) middle rest h.2 more)

-- one request more
pub begins_one : (rs : List Request) (r : Request) (n : ℕ) (a rest : List ℕ) → Begins rs a rest
    → looks rest ≡ Frame r n → Begins (rs ++ r ∷ []) a (drop n rest)
begins_one rs r n a rest h e = begins_more rs (r ∷ []) a rest (drop n rest) h (n, e, refl)

stay : (s v b k c : Bool) (f : Prefix) (s' v' b' k' c' : Bool) (f' : Prefix) → (s ≡ false → s' ≡ false) → (s ≡ false
    → v' ≡ v) → (b ≡ false → b' ≡ false) → (b ≡ false → k' ≡ k) → (s ≡ false → c ≡ false → c' ≡ false)
    → (s ≡ false → b ≡ false → c ≡ false → f' ≡ f) → pick s v b k c f ≡ Fault → pick s' v' b' k' c' f' ≡ Fault
stay true v b k c f s' v' b' k' c' f' hs hv hb hk hc hf e = cc e
stay false false b k c f s' v' b' k' c' f' hs hv hb hk hc hf e = rw (hs refl, hv refl) refl
stay false true true k c f s' v' b' k' c' f' hs hv hb hk hc hf e = cc e
stay false true false false c f s' v' b' k' c' f' hs hv hb hk hc hf e = rw (hs refl, hv refl, hb refl, hk refl) refl
stay false true false true true f s' v' b' k' c' f' hs hv hb hk hc hf e = cc e
stay false true false true false f s' v' b' k' c' f' hs hv hb hk hc hf e =
    rw (hs refl, hv refl, hb refl, hk refl, hc refl refl) (hf refl refl refl ∙ e)

-- a fault stays
pub fault_stays : (a b : List ℕ) → looks a ≡ Fault → looks (a ++ b) ≡ Fault
fault_stays a b e =
    let long : length (a ++ b) ≡ length a + length b = length-append a b in
    let at_least : (k : ℕ) → nat_lt (length a) k ≡ false → k ≤ length a = λ k. ltb-false (length a) k in
    let m : nat_lt (length a) 2 ≡ false → size (a ++ b) ≡ size a = λ s. number_same a b (at_least 2 s) in
    stay (nat_lt (length a) 2) (is_size (size a)) (nat_lt (length a) 3) (is_kind (slice_index a 2)) (nat_lt (length
    a) (2 + size a)) (behind a)
    (nat_lt (length (a ++ b)) 2) (is_size (size (a ++ b))) (nat_lt (length (a ++ b)) 3) (is_kind (slice_index (a ++
    b) 2)) (nat_lt (length (a ++ b)) (2 + size (a ++ b))) (behind (a ++ b))
    (λ s. let two = at_least 2 s in le-ltb (length (a ++ b)) 2 (omega (arith, long, two)))
    (λ s. ap is_size (m s))
    (λ s. let three = at_least 3 s in le-ltb (length (a ++ b)) 3 (omega (arith, long, three)))
    (λ s. ap is_kind (kind_same a b (at_least 3 s)))
    (λ s t. let all = at_least (2 + size a) t in let same = m s in le-ltb (length (a ++ b)) (2 + size (a ++ b)) (omega
    (arith, long, all, same)))
    (λ s t u. behind_same a b (at_least 2 s) (at_least 3 t) (at_least (2 + size a) u))
    e

-- what a connection keeps, one piece later
module _ (bytes : List ℕ) (rs : List Request) (fault : Bool) (unread piece bytes' : List ℕ) (given' : List Request)
    (keeps : Keeps bytes rs fault unread) (more : bytes' ≡ bytes ++ piece) where
  longer : Begins rs bytes' (unread ++ piece)
  longer = subst (λ (l : List ℕ). Begins rs l (unread ++ piece)) (sym more) (begins_longer rs bytes piece unread
      keeps.begins)

  pub fed_on : (qs : List Request) (rest unread' : List ℕ) (fault' : Bool) → given' ≡ rs ++ qs
      → Begins qs (unread ++ piece) rest → looks rest ≡ stop fault' → unread' ≡ rest
      → Keeps bytes' given' fault' unread'
  fed_on qs rest unread' fault' is begins stops left =
      let begun = begins_more rs qs bytes' (unread ++ piece) rest longer begins in
      record {
        begins = subst (Begins given' bytes') (sym left) (subst (λ (l : List Request). Begins l bytes' rest) (sym is)
            begun);
        stops = ap looks left ∙ stops;
      }

pub exact : (bytes : List ℕ) (rs : List Request) (fault : Bool) (unread : List ℕ) → Keeps bytes rs fault unread
    → AreRequests bytes rs fault
exact bytes rs fault unread k = (unread, k.begins, k.stops)

-- whatever stands behind a fault
pub behind_fault : (bytes : List ℕ) (rs : List Request) (fault : Bool) (unread : List ℕ) → Keeps bytes rs fault unread
    → fault ≡ true → (more : List ℕ) → AreRequests (bytes ++ more) rs true
behind_fault bytes rs fault unread k bad more = (
  unread ++ more,
  begins_longer rs bytes more unread k.begins,
  fault_stays unread more (k.stops ∙ ap stop bad),
)
