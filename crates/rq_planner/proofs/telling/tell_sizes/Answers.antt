use Rattle.std.proofs.Common.{◌≡◌, sym, subst, inl}
use Rattle.rq_page.specs.Formatted.{IsFormatted}
use Rattle.rq_pool.specs.Pooled.{image_at}
use Rattle.rq_planner.proofs.Options.{some_told}
use Rattle.rq_planner.proofs.Told.{ready_told}
use Rattle.rq_planner.proofs.telling.tell_sizes.Goals as goal

pub page-requires : goal.page-requires
page-requires g c =
    let fixed = c.shows_frames.ensures.superblock in
    λ known. inl (record { at = fixed.at; within = fixed.within; is = fixed.is })

pub returns-clause-ready : goal.returns-clause-ready
returns-clause-ready g c =
    let image : c.unwrap-superblock.result.now ≡ image_at c.args.pages.now.images 0 =
    some_told (λ page. page.now ≡ image_at c.args.pages.now.images 0) c.page.result c.unwrap-superblock.result c.unwrap-superblock.ensures c.page.ensures.image in
    let is : IsFormatted c.args.pages.now.sizes 0 c.unwrap-superblock.result.now = subst (IsFormatted c.args.pages.now.sizes 0) (sym image) c.shows_kept.ensures.pool.superblock in
    ready_told c.new.result c.args.levels.now c.noted.new.self c.args.pages.now.sizes c.unwrap-superblock.result.now c.slot.result.now
    c.new.ensures c.requires c.noted.ensures c.shows_kept.ensures.pool.range is c.slot.ensures
