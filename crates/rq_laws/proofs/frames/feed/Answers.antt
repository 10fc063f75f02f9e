use Rattle.rq_laws.proofs.Fed.{feed_alike, given_alike}
use Rattle.rq_laws.proofs.frames.feed.Goals as goal

pub returns : goal.returns
returns c =
    let left = feed_alike _ _ _ _ _ _ _ c.requires.same c.feed.ensures.bytes c.feed.ensures.exact c.feed.ensures.still c.feed-2.ensures.bytes c.feed-2.ensures.exact c.feed-2.ensures.still in
    record {
      given = given_alike _ _ _ _ _ _ c.requires.same left c.feed.ensures.requests c.feed.ensures.fault c.feed-2.ensures.requests c.feed-2.ensures.fault;
      left = left;
    }
