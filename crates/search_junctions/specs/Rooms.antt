-- The room that a trip's search keeps its nodes in. Definitions, and how calls after each other keep it.
use Rattle.std.proofs.Common.{◌∙◌}
use Rattle.std.specs.Prelude.{◌≡◌, refl, ℕ, length}
use Rattle.search_queue.specs.declared.Room.{Room}
use Rattle.search_labels.specs.Labelling.{Ordered}

-- a room for n nodes, in order
pub record RoomOf (n : ℕ) (room : Room) : Type 0 where
  pub n-is : room.n ≡ n
  pub ordered : Ordered n room.words.now

-- the room after a call is the room before it, with other words in it
pub record SameRoom (a b : Room) : Type 0 where
  pub n-is : b.n ≡ a.n
  pub long : length b.words.now ≡ length a.words.now
  pub lent : b.words.ghost_name ≡ a.words.ghost_name

pub same_start : {a : Room} → SameRoom a a
same_start = record { n-is = refl; long = refl; lent = refl }

pub same_then : {a b c : Room} → SameRoom a b → c.n ≡ b.n → length c.words.now ≡ length b.words.now
    → c.words.ghost_name ≡ b.words.ghost_name → SameRoom a c
same_then x n long lent = record { n-is = n ∙ x.n-is; long = long ∙ x.long; lent = lent ∙ x.lent }

pub same_trans : {a b c : Room} → SameRoom a b → SameRoom b c → SameRoom a c
same_trans x y = same_then x y.n-is y.long y.lent

pub room-kept : {n : ℕ} {a b : Room} → RoomOf n a → SameRoom a b → Ordered n b.words.now → RoomOf n b
room-kept x same right = record { n-is = same.n-is ∙ x.n-is; ordered = right }
