-- Chains as the code holds them.
use Rattle.std.specs.Prelude.{◌≡◌, ◌==◌, ◌≤◌, ◌++◌, ℕ, Bool, true, false, List, [], ◌∷◌, length, Vec}
use Rattle.std.specs.declared.alloc.Global.{Global}
use Rattle.chain_units.specs.declared.pieces.Piece.{Piece}
use Rattle.std.specs.List.{AllByRecursion}
use Rattle.flow_graph.specs.declared.graph.Item.{Item, out-Item}
use Rattle.flow_graph.specs.declared.graph.Item.TheOpen.{Item-F}
use Rattle.flow_graph.specs.Nodes.{first_of, laid_items}
use Rattle.chain_units.specs.declared.cutting.Turning as code
use Rattle.chain_units.specs.declared.cutting.Placer.{Placer}
use Rattle.chain_units.specs.declared.cutting.Run.{Run}
use Rattle.chain_units.specs.declared.cutting.Run.TheVariants as run
use Rattle.chain_units.specs.Known.{Known}
use Rattle.chain_units.specs.Marks.{Mark, ChainUnit, turn_of}
use Rattle.chain_units.specs.Chains.{PlacedChain, Plain, Turning, cut}
use Rattle.chain_units.specs.Pieces.{ArePieces, FitsAlone, IsTurnOf}
use Rattle.chain_units.specs.Planned.{IsGreatest, turning_weighed}

-- the piece of a turn of a loop
abbrev pub IsTurnBy : Known → Item-F Item → ℕ → Piece → Type 0
IsTurnBy k (Item-F.Loop pre test post step back count) next p = IsTurnOf k (turn_of pre test post step) (first_of (laid_items pre) test.number) next p
IsTurnBy k _ next p = ⊥

-- a conditional loop with its turns
pub record IsTurningOf (k : Known) (x : Item) (behind : ℕ) (t : code.Turning) : Type 0 where
  pub first : t.turn.first ≡ first_of (laid_items (x ∷ [])) behind
  pub turn : IsTurnBy k (out-Item x) behind t.turn
  pub greatest : IsGreatest (turning_weighed k x behind) 1024 k.board.budget t.greatest.turns t.greatest.homes.items t.greatest.cost

abbrev pub IsRun : Known → PlacedChain → Run → Type 0
IsRun k (Plain us) (run.Plain ps) = ArePieces k us ps.items
IsRun k (Turning x n) (run.Alone t) = IsTurningOf k x n t
IsRun k _ _ = ⊥

-- a plain chain has at most 32 pieces, each of which fits by itself
abbrev pub RunFits : Known → Run → Type 0
RunFits k (run.Plain ps) = (length ps.items ≤ 32) × AllByRecursion (FitsAlone k) ps.items
RunFits k (run.Alone t) = Unit {0}

abbrev pub AreRuns : Known → List PlacedChain → List Run → Type 0
AreRuns k [] [] = Unit {0}
AreRuns k (c ∷ cs) (r ∷ rs) = IsRun k c r × AreRuns k cs rs
AreRuns k _ _ = ⊥

-- ---- what the code does with the chain that is open

-- the pieces that were open are the last chain
pub record IsLast (runs more : List Run) (pieces : List Piece) : Type 0 where
  pub last : Vec Piece Global
  pub of_pieces : last.items ≡ pieces
  pub behind : more ≡ runs ++ run.Plain last ∷ []

abbrev pub Closed : List Run → List Run → List Piece → Type 0
Closed runs more [] = more ≡ runs
Closed runs more (p ∷ ps) = IsLast runs more (p ∷ ps)

pub record HasClosed (old new : Placer) : Type 0 where
  pub pieces : new.pieces.items ≡ []
  pub runs : Closed old.runs.items new.runs.items old.pieces.items

abbrev pub Joined : Bool → List Run → List Run → List Piece → List Piece → Type 0
Joined true runs more pieces left = (left ≡ []) × IsLast runs more pieces
Joined false runs more pieces left = (left ≡ pieces) × (more ≡ runs)

abbrev pub HasJoined : Placer → Piece → Placer → Type 0
HasJoined old p new = Joined (length old.pieces.items == 31) old.runs.items new.runs.items (old.pieces.items ++ p ∷ []) new.pieces.items

pub record StandsAlone (old : Placer) (t : code.Turning) (new : Placer) : Type 0 where
  pub pieces : new.pieces.items ≡ []
  pub closed : List Run
  pub before : Closed old.runs.items closed old.pieces.items
  pub alone : new.runs.items ≡ closed ++ run.Alone t ∷ []

-- ---- marks that were met

-- the chains and the units of the chain that is open, behind some marks
pub record IsBehind (k : Known) (before : List Mark) (p : Placer) : Type 0 where
  pub units : List ChainUnit
  pub chains : List PlacedChain
  pub pieces : ArePieces k units p.pieces.items
  pub runs : AreRuns k chains p.runs.items
  pub so_far : (more : List Mark) → cut [] (before ++ more) ≡ chains ++ cut units more

-- the marks are met
abbrev pub Places : Known → List Mark → Placer → Placer → Type 0
Places k marks old new = (before : List Mark) → IsBehind k before old → IsBehind k (before ++ marks) new
