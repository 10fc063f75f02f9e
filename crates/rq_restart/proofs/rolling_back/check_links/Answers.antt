use Rattle.rq_views.specs.Stored.{slots_in}
use Rattle.rq_chain_check.specs.Links.{AreLinked, IsFault}
use Rattle.rq_chain_check.proofs.Options.{none_told, some_told}
use Rattle.rq_planner.proofs.Readings.{reads_passed, truly_done}
use Rattle.rq_restart.proofs.Linking.{link_reads, link_stops}
use Rattle.rq_restart.proofs.rolling_back.check_links.Goals as goal

pub returns-in-Ok-Some-clause-stops : goal.returns-in-Ok-Some-clause-stops
returns-in-Ok-Some-clause-stops g c = λ stored.
    let old = c.args.pages.now in
    let truly = truly_done g.P.PageDevice c.in-Ok-Some.field-0 old c.first_broken.new.pages stored in
    some_told (IsFault old.sizes (slots_in old.sizes old.images)) c.in-Ok-Some.field-0 c.in-Ok-Some.page c.in-Ok-Some.field-0-is (c.in-Ok-Some.ensures.fault truly)

pub returns-in-Ok-Some-clause-read : goal.returns-in-Ok-Some-clause-read
returns-in-Ok-Some-clause-read g c = record { read = c.in-Ok-Some.ensures.read.read; counted = tt; refused = c.in-Ok-Some.ensures.read.counted }

pub returns-in-Ok-None-clause-linked : goal.returns-in-Ok-None-clause-linked
returns-in-Ok-None-clause-linked g c = λ stored.
    let old = c.args.pages.now in
    let truly = truly_done g.P.PageDevice c.in-Ok-None.field-0 old c.first_broken.new.pages stored in
    none_told (AreLinked old.sizes (slots_in old.sizes old.images)) c.in-Ok-None.field-0 c.in-Ok-None.field-0-is (c.in-Ok-None.ensures.whole truly)

pub returns-in-Ok-None-clause-read : goal.returns-in-Ok-None-clause-read
returns-in-Ok-None-clause-read g c = record { read = c.in-Ok-None.ensures.read.read; counted = c.in-Ok-None.ensures.read.counted; refused = tt }

pub returns-in-Err-clause-stops : goal.returns-in-Err-clause-stops
returns-in-Err-clause-stops g c = λ stored.
    let old = c.args.pages.now in
    link_stops g.P.PageDevice old c.first_broken.new.pages old.sizes (slots_in old.sizes old.images) c.in-Err.refusal c.in-Err.ensures.refused stored

pub returns-in-Err-clause-read : goal.returns-in-Err-clause-read
returns-in-Err-clause-read g c = reads_passed g.P.PageDevice c.in-Err.refusal c.in-Err.refusal c.args.pages.now c.first_broken.new.pages (λ f. f) c.in-Err.ensures.read

pub returns-in-Err-clause-names : goal.returns-in-Err-clause-names
returns-in-Err-clause-names g c = link_reads g.P.PageDevice c.args.pages.now c.first_broken.new.pages c.in-Err.refusal c.in-Err.ensures.refused
