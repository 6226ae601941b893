-- What a piece of code between two heads costs, by the objects that are kept in SRAM in it.
use Rattle.std.specs.Prelude.{ℕ, ◌+◌, ◌*◌, ◌-◌, Bool, true, false, List, [], ◌∷◌, ◌++◌, nat_le, nat_lt, ◌&&◌, ◌||◌, if◌then◌else◌, map, min}
use Rattle.board_table.specs.declared.board.Board.{Board}
use Rattle.flow_graph.specs.declared.graph.Item.{Item}
use Rattle.flow_graph.specs.declared.graph.Item.TheFolds.{fold-Item}
use Rattle.flow_graph.specs.declared.graph.Item.TheOpen.{Item-F}
use Rattle.home_planner.specs.Sets.{is_in}
use Rattle.loop_checkpoints.specs.declared.LoopObject.{LoopObject}
use Rattle.loop_checkpoints.specs.Loops as loops
use Rattle.item_weights.specs.declared.uses.Use.{Use}
use Rattle.chain_units.specs.Known.{Known, Weighs, fram_cost, object_words, sram_cost}
use Rattle.item_weights.specs.Weights.{kept}

-- ---- moves

-- MOV from one place of memory to another
abbrev pub move_word : Board → ℕ → ℕ → ℕ
move_word b read write = ((b.core.move_ + 3 * b.access.fetch) + read) + write

-- A scalar is moved by one MOV. An array is moved word by word from its end: MOV #2n,R15, and for each word MOV, SUB #2,R15 and JNE.
abbrev pub move_cost : Board → Bool → ℕ → ℕ → ℕ → ℕ
move_cost b false words read write = move_word b read write
move_cost b true words read write = (b.core.move_ + 2 * b.access.fetch) + words * (((move_word b read write + b.core.alu) + b.core.jump) + 2 * b.access.fetch)

abbrev pub restore_cost : Board → Bool → ℕ → ℕ
restore_cost b array words = move_cost b array words b.access.fram_read b.access.sram_write

abbrev pub save_cost : Board → Bool → ℕ → ℕ
save_cost b array words = move_cost b array words b.access.sram_read b.access.fram_write

-- ---- objects that flat functions touch

abbrev pub any_of : List (List ℕ) → List ℕ
any_of [] = []
any_of (xs ∷ more) = xs ++ any_of more

abbrev pub touched_by : Known → Item-F (List ℕ) → List ℕ
touched_by k (Item-F.One op) = []
touched_by k (Item-F.Branch test a b) = any_of a ++ any_of b
touched_by k (Item-F.Loop pre test post step back count) = any_of pre ++ (any_of post ++ any_of step)
touched_by k (Item-F.Switch items) = any_of items
touched_by k (Item-F.CallTo op f) = if k.is_flat f then k.touched f else []
touched_by k (Item-F.Leave op to) = []

-- the objects that flat functions called in an item touch
unfoldable pub touched_in : Known → Item → List ℕ
touched_in k item = fold-Item (List ℕ) (touched_by k) item

abbrev pub touched_in_all : Known → List Item → List ℕ
touched_in_all k [] = []
touched_in_all k (x ∷ xs) = touched_in k x ++ touched_in_all k xs

-- ---- weighed code

-- what is spent once, what is spent each turn, and the objects that may be kept in SRAM
pub record Weighed : Type 0 where
  pub fixed : ℕ
  pub base : ℕ
  pub objects : List LoopObject

-- What the moves of an object cost. It is restored where it is an array or where its value is wanted at the beginning, and saved where it is
-- written and its value is wanted behind.
abbrev pub moves : Known → (ℕ → Bool) → (ℕ → Bool) → Use → ℕ
moves k wanted_first wanted_behind u =
    let array = k.is_array u.object in
    let words = object_words k.graph u.object in
    (if array || wanted_first u.object then restore_cost k.board array words else 0)
    + (if nat_lt 0 u.writes && wanted_behind u.object then save_cost k.board array words else 0)

abbrev pub object_of : Known → (ℕ → Bool) → (ℕ → Bool) → Use → LoopObject
object_of k wanted_first wanted_behind u = record {
  object = u.object;
  words = object_words k.graph u.object;
  fram = fram_cost k.board u;
  sram = sram_cost k.board u;
  moves = moves k wanted_first wanted_behind u;
}

-- those uses of whose objects none is barred
abbrev pub free_uses : List ℕ → List Use → List Use
free_uses barred [] = []
free_uses barred (u ∷ us) = if is_in barred u.object then free_uses barred us else u ∷ free_uses barred us

-- what the uses of barred objects cost, which stay in FRAM, behind what is there
abbrev pub with_barred : Board → List ℕ → ℕ → List Use → ℕ
with_barred b barred base [] = base
with_barred b barred base (u ∷ us) = with_barred b barred (if is_in barred u.object then kept (base + fram_cost b u) else base) us

-- code with so much to spend once and so much more each turn; objects that its flat functions touch stay in FRAM
abbrev pub weighed : Known → ℕ → ℕ → List ℕ → (ℕ → Bool) → (ℕ → Bool) → Weighs → Weighed
weighed k once each_turn barred wanted_first wanted_behind w = record {
  fixed = once;
  base = with_barred k.board barred (kept (w.base + each_turn)) w.uses;
  objects = map (object_of k wanted_first wanted_behind) (free_uses barred w.uses);
}

abbrev pub turns_cost : Weighed → ℕ → List ℕ → ℕ
turns_cost w turns homes = (w.fixed + turns * w.base) + loops.objects_cost turns w.objects homes

abbrev pub words_taken : Weighed → List ℕ → ℕ
words_taken w homes = loops.words_of w.objects homes

-- ---- the least cost of one turn, object by object

abbrev pub least_in : List LoopObject → ℕ → ℕ
least_in [] room = 0
least_in (o ∷ os) room =
    if nat_le o.words room
    then min (o.fram + least_in os room) ((o.sram + o.moves) + least_in os (room - o.words))
    else o.fram + least_in os room

abbrev pub one_turn_fits : Weighed → ℕ → ℕ → Bool
one_turn_fits w room budget = nat_le ((w.fixed + w.base) + least_in w.objects room) budget
