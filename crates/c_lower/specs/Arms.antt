-- The groups of a switch as a list of arms.
use Rattle.std.specs.Prelude.{◌≡◌, List, [], ◌∷◌, ◌++◌}
use Rattle.base_io.specs.declared.place.Place.{Place}
use Rattle.flow_graph.specs.declared.graph.Operand.{Operand}
use Rattle.flow_graph.specs.declared.graph.Item.{Item}
use Rattle.flow_graph.specs.declared.graph.Item.TheVariants.{Branch}
use Rattle.lowered_graphs.specs.Making.{Emit, Made, ◌>>=◌, ◌>>◌, pure, inside, numbered, one, test_of, go}
use Rattle.lowered_graphs.specs.Stmts.{LoweredGroup, labels, group_items, groups_from}
use Rattle.c_lower.specs.declared.arms.Arm.{Arm}
use Rattle.c_lower.specs.Emitting.{Emitted}

-- the comparisons and the test of a group, and what it does
abbrev pub arm_of : Operand → LoweredGroup → Place → Emit Arm
arm_of v g at = inside (labels v g.labels >>= (λ a. numbered (test_of a at)))
    >>= (λ t. inside (group_items g >> one (go at))
    >>= (λ x. pure (record { before = t.items; test = t.value; yes = x.items })))

-- each arm stands in what isn't taken of the one before it, and these items in what isn't taken of the last
abbrev pub nested : List Arm → List Item → List Item
nested [] items = items
nested (a ∷ others) items = a.before ++ Branch a.test a.yes (nested others items) ∷ []

-- what is made behind arms, nested in them
abbrev pub nested_made : List Arm → Made (Unit {0}) → Made (Unit {0})
nested_made arms m = record { items = nested arms m.items; value = tt; counts = m.counts }

-- where these arms are made of the groups before a group, the new ones are made of it too
pub record Chains (v : Operand) (g : LoweredGroup) (at : Place) (arms more : List Arm) (old new : Emitted) : Type 0 where
  pub whole : (gs : List LoweredGroup) (others : Emit (Unit {0})) → nested_made arms (groups_from v (g ∷ gs) others at old.counts) ≡ nested_made more (groups_from v gs others at new.counts)
  pub outer : new.items ≡ old.items
