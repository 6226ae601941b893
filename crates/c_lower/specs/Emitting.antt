-- How what a function of the lowering leaves behind stands to the part that it lowers.
use Rattle.std.specs.Prelude.{◌≡◌, List, ◌++◌}
use Rattle.flow_graph.specs.declared.graph.Item.{Item}
use Rattle.lowered_graphs.specs.Making.{Emit, Counts}

-- the items given, and the numbers behind them
pub record Emitted : Type 0 where
  pub items : List Item
  pub counts : Counts

-- the part's items were given behind those that were there, and its answer was given
pub record Emits {A : Type 0} (part : Emit A) (value : A) (old new : Emitted) : Type 0 where
  pub answer : value ≡ (part old.counts).value
  pub items : new.items ≡ old.items ++ (part old.counts).items
  pub counts : new.counts ≡ (part old.counts).counts

-- where what is left of a part is given from now on, the whole of it has been given
pub record Leads {A : Type 0} (whole left : Emit A) (old now : Emitted) : Type 0 where
  pub on : (x : A) (new : Emitted) → Emits left x now new → Emits whole x old new
