-- What the words tell of any number of nodes they tell of the room's.
use Rattle.search_queue.proofs.Room.choose.Goals as goal

pub returns : goal.returns
returns c = c.choose.ensures _
