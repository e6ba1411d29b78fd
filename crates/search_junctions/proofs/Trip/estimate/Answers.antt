-- What is lent has the lengths that an estimate goes over.
use Rattle.search_junctions.proofs.Trip.estimate.Goals as goal

pub estimate-requires : goal.estimate-requires
estimate-requires c =
    let (junction_in, lent) = c.requires in record {
      junction_in = junction_in;
      n-high = lent.n-high;
      order_is = lent.order_is;
      ranks_are = lent.ranks_are;
      down_is = lent.down_is;
      estimates_are = lent.estimates_are;
      records_in = lent.pairs_are;
      times_in = lent.times_are;
      count-high = lent.count-high;
    }
