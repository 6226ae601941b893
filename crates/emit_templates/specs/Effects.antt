-- What an operation does, by the words that it reads: the one word of an object that it writes, the word that it puts, and where it leads.
use Rattle.std.specs.Prelude.{ℕ, Bool, true, false, if◌then◌else◌, nat_lt, Option, None, Some}
use Rattle.c_values.specs.Values.{Worked, Gives, Traps as MeetsTrap, index_trap}
use Rattle.flow_graph.specs.declared.graph.ArrayUse.{ArrayUse}
use Rattle.flow_graph.specs.declared.graph.Op.{Op}
use Rattle.flow_graph.specs.declared.graph.OpKind.{OpKind}
use Rattle.flow_graph.specs.declared.graph.OpKind.TheVariants as kind
use Rattle.flow_graph.specs.Operations.{gives, passes}

-- a word of an object that is written
pub record Change : Type 0 where
  pub object : ℕ
  pub index : ℕ
  pub value : ℕ

-- where an operation leads: on to the code behind its own, to its target, into a function, back from one, to the end with a word, or to a trap
pub data Turn : Type 0 where
  On : Turn
  Away : Turn
  Calls : Turn
  Returns : Turn
  Ends : ℕ → Turn
  Traps : ℕ → Turn

pub record Effect : Type 0 where
  pub change : Option Change
  pub puts : Option ℕ
  -- it takes an input word
  pub takes : Bool
  pub turn : Turn

-- nothing but where it leads
abbrev pub leads : Turn → Effect
leads turn = record { change = None; puts = None; takes = false; turn = turn }

abbrev pub first_word : Option ℕ → ℕ → Option Change
first_word None w = None
first_word (Some o) w = Some (record { object = o; index = 0; value = w })

abbrev pub worked : Option ℕ → Worked → Effect
worked dest (Gives w) = record { change = first_word dest w; puts = None; takes = false; turn = On }
worked dest (MeetsTrap t) = leads (Traps t)

-- within the array, or a trap
abbrev pub at_element : Bool → Effect → Effect
at_element true e = e
at_element false e = leads (Traps index_trap)

-- the element's word goes to the destination; an operation by the rules of graphs names an array
abbrev pub load : Option ArrayUse → Option ℕ → ℕ → ℕ → Effect
load None dest i element = leads On
load (Some array) dest i element = at_element (nat_lt i array.length) (record { change = first_word dest element; puts = None; takes = false; turn = On })

abbrev pub store : Option ArrayUse → ℕ → ℕ → Effect
store None w i = leads On
store (Some array) w i =
    at_element (nat_lt i array.length) (record { change = Some (record { object = array.object; index = i; value = w }); puts = None; takes = false; turn = On })

-- By the words of the operands, that of the array's element at the index, and the next input word. A test that isn't passed goes to the target.
abbrev pub effect_by : OpKind → Op → (a b element input : ℕ) → Effect
effect_by kind.Load op a b element input = load op.array op.dest a element
effect_by kind.Store op a b element input = store op.array a b
effect_by kind.Input op a b element input = record { change = first_word op.dest input; puts = None; takes = true; turn = On }
effect_by kind.Output op a b element input = record { change = None; puts = Some a; takes = false; turn = On }
effect_by kind.Finish op a b element input = leads (Ends a)
effect_by kind.Test op a b element input = leads (if passes kind.Test a b then On else Away)
effect_by kind.Below op a b element input = leads (if passes kind.Below a b then On else Away)
effect_by kind.Go op a b element input = leads Away
effect_by kind.Call op a b element input = leads Calls
effect_by kind.Ret op a b element input = leads Returns
effect_by k op a b element input = worked op.dest (gives k a b)
