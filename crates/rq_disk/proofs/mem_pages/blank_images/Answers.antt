use Rattle.std.proofs.Common.{◌≡◌, ◌<◌, ◌+◌, [], ◌∷◌, ◌++◌, ℕ, List, length, get_or, replicate, ap, arith, length-append, ◌∙◌}
use Rattle.std.proofs.lemmas.Grind.{common_steps}
use Rattle.std.proofs.lemmas.List.{replicate_more}
use Rattle.rq_disk.specs.declared.device.TheConstants.{PAGE}
use Rattle.rq_disk.proofs.mem_pages.blank_images.Goals as goal

-- one more of the same
one_more : (images next : List (List ℕ)) (n : ℕ) (blank : List ℕ) → length images ≡ n → next ≡ images ++ blank ∷ [] → ((p : ℕ) → p < n → get_or images p [] ≡ blank) → (p : ℕ) → p < n + 1 → get_or next p [] ≡ blank
one_more images next n blank long is all p lt = grind (arith, common_steps, all p)

pub loop-page-preserved : goal.loop-page-preserved
loop-page-preserved c =
    let l = c.loop-page in
    let pushed : c.push.new.self.items ≡ l.images.items ++ replicate PAGE 0 ∷ [] = c.in_ok-push.ensures.items in
    record {
      count = omega (arith, ap length pushed, length-append l.images.items (replicate PAGE 0 ∷ []), l.invariant.count);
      all = pushed ∙ ap (λ (images : List (List ℕ)). images ++ replicate PAGE 0 ∷ []) l.invariant.all ∙ replicate_more l._page (replicate PAGE 0);
      blank = one_more l.images.items c.push.new.self.items l._page (replicate PAGE 0) l.invariant.count pushed l.invariant.blank;
    }
