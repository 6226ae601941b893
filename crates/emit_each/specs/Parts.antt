-- What the parts of the emitter answer, each over lists alone.
use Rattle.std.specs.Prelude.{ℕ, ◌+◌, ◌*◌, ◌==◌, ◌++◌, if◌then◌else◌, IsTrue, All, Bool, true, false, ⊤, List, [], ◌∷◌, length, slice_index_or}
use Rattle.ti_txt.specs.Image.{Block}
use Rattle.msp430_isa.specs.Profile.{in_profile}
use Rattle.flow_graph.specs.declared.graph.Item.{Item}
use Rattle.flow_graph.specs.declared.graph.Item.TheOpen.{Item-F}
use Rattle.flow_graph.specs.declared.graph.Object.{Object}
use Rattle.flow_graph.specs.declared.nodes.Node.{Node}
use Rattle.resumed_runs.specs.Bytes.{bytes_of}
use Rattle.resumed_runs.specs.Code.{size_of}
use Rattle.laid_code.specs.Chosen.{Piece, head_size}
use Rattle.graph_code.specs.Heads.{are_straight}
use Rattle.graph_code.specs.Pieces.{Template, jumps_to}
use Rattle.op_cost.specs.Templates.{code_of, template}
use Rattle.emit_templates.specs.Placed.{HasHomes, home_in}

-- ---- Items

-- neither a branch nor a loop nor a leave, by the parts of an item
abbrev pub straight_in : Item-F Item → Bool
straight_in (Item-F.One op) = true
straight_in (Item-F.CallTo op f) = true
straight_in (Item-F.Switch items) = are_straight items
straight_in (Item-F.Branch test a b) = false
straight_in (Item-F.Loop pre test post step back count) = false
straight_in (Item-F.Leave op to) = false

-- ---- Objects, from an address on

abbrev pub addresses_from : ℕ → List Object → List ℕ
addresses_from a [] = []
addresses_from a (x ∷ xs) = a ∷ addresses_from (a + 2 * x.words) xs

-- bytes from an address on, in one block with what stands just behind them
abbrev pub led_by : ℕ → List ℕ → List Block → List Block
led_by a [] blocks = blocks
led_by a (c ∷ cs) [] = record { start = a; bytes = c ∷ cs } ∷ []
led_by a (c ∷ cs) (x ∷ blocks) =
    if x.start == a + length (c ∷ cs) then record { start = a; bytes = c ∷ cs ++ x.bytes } ∷ blocks
    else record { start = a; bytes = c ∷ cs } ∷ x ∷ blocks

abbrev pub blocks_at : ℕ → List Object → List Block
blocks_at a [] = []
blocks_at a (x ∷ xs) = led_by a (bytes_of x.first) (blocks_at (a + 2 * x.words) xs)

-- ---- Operations

-- the code of an operation whose objects have these addresses
abbrev pub placed_template : List ℕ → Template
placed_template places target op = code_of (template (home_in places) target op)

abbrev pub head_in : List Bool → ℕ → Bool
head_in heads n = slice_index_or heads n false

-- each object of each operation has its address
abbrev pub AllHave : List ℕ → List Node → Type 0
AllHave places [] = ⊤
AllHave places (x ∷ xs) = HasHomes places x.op × AllHave places xs

-- where each piece begins, and where the last ends
abbrev pub starts_from : ℕ → List Piece → List ℕ
starts_from k [] = []
starts_from k (p ∷ ps) = k ∷ starts_from (k + head_size p.has_head + size_of p.template) ps

abbrev pub end_from : ℕ → List Piece → ℕ
end_from k [] = k
end_from k (p ∷ ps) = end_from (k + head_size p.has_head + size_of p.template) ps

-- the address of an operation
abbrev pub address_in : List ℕ → ℕ → ℕ → ℕ
address_in starts end n = 0x8000 + 2 * slice_index_or starts n end

-- the instructions of each operation are of the profile
abbrev pub AllAllowed : Template → (ℕ → ℕ) → List Node → Type 0
AllAllowed t address [] = ⊤
AllAllowed t address (x ∷ xs) = All (λ i. IsTrue (in_profile i)) (t (address (jumps_to x.next)) x.op) × AllAllowed t address xs
