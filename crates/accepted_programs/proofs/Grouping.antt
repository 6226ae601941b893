-- What is judged of operands with operators between them is good, where it is of each operand; and what is known of a token of a text.
use Rattle.std.proofs.Common.{refl, sym, subst, Bool, true, false, List, [], ◌∷◌}
use Rattle.std.specs.Prelude.{cond, nat_lt}
use Rattle.c_parse.specs.declared.raw.Raw.{Raw}
use Rattle.c_parse.specs.declared.raw.RawRule.TheVariants as rules
use Rattle.c_parse.specs.Precedence.{Operands, operand, joined, join, gather, raw_of, tree_of, level_of}
use Rattle.c_parse.specs.Words.{Word}
use Rattle.c_typing.specs.Judged.{Judged}
use Rattle.c_typing.specs.Programs.{judged}
use Rattle.c_typing.proofs.Judging.{judged_node, judged_leaf}
use Rattle.accepted_programs.specs.Texts.{IsWord}
use Rattle.accepted_programs.proofs.Walk.{World}
use Rattle.accepted_programs.proofs.Values.{IsExpr}
use Rattle.accepted_programs.proofs.Expressing.{binary_good}
use Rattle.accepted_programs.proofs.Tokens.{IsToken}

-- a token of a text is one of its class
pub token_of : (word : Word) → IsWord word → IsToken word.class (judged word.leaf)
token_of word h =
    subst (λ raw. IsToken word.class (judged raw)) (sym h.leaf)
    (subst (λ (j : Judged). IsToken word.class j) (sym (judged_leaf h.kind h.bytes h.place)) (record { token = refl; kind = h.kind; is = refl; class = h.class; plausible = h.plausible }))

module _ (w : World) where
  abbrev pub AreGood : Operands → Type 0
  AreGood (operand a) = IsExpr w (judged a)
  AreGood (joined left operator right) = AreGood left × AreGood right

  raw_good : (o : Operands) → AreGood o → IsExpr w (judged (raw_of o))
  raw_good (operand a) h = subst (λ (j : Judged). IsExpr w j) (sym (judged_node rules.Binary (a ∷ []))) h
  raw_good (joined left operator right) (h, k) =
      subst (λ (j : Judged). IsExpr w j) (sym (judged_node rules.Binary (raw_of left ∷ operator ∷ raw_of right ∷ [])))
      (binary_good w (judged (raw_of left)) (judged operator) (judged (raw_of right)) (raw_good left h) (raw_good right k))

  join_good : (o : Operands) (operator : Raw) (b : Operands) → AreGood o → AreGood b → AreGood (join o operator b)
  join_good (operand a) operator b h k = (h, k)
  join_good (joined left first right) operator b (h, r) k = by (nat_lt (level_of first) (level_of operator)) (join_good right operator b r k)
    where
      by : (c : Bool) → AreGood (join right operator b) → AreGood (cond c (joined left first (join right operator b)) (joined (joined left first right) operator b))
      by true q = (h, q)
      by false q = ((h, r), k)

  -- an operator with its operand behind it, and so on
  abbrev pub AreOperands : List Raw → Type 0
  AreOperands (operator ∷ b ∷ rest) = IsExpr w (judged b) × AreOperands rest
  AreOperands _ = Unit {0}

  gather_good : (o : Operands) (rest : List Raw) → AreGood o → AreOperands rest → AreGood (gather o rest)
  gather_good o [] h k = h
  gather_good o (operator ∷ []) h k = h
  gather_good o (operator ∷ b ∷ rest) h (k, ks) = gather_good (join o operator (operand b)) rest (join_good o operator (operand b) h k) ks

  pub operands_good : (first : Raw) (rest : List Raw) → IsExpr w (judged first) → AreOperands rest → IsExpr w (judged (tree_of (first ∷ rest)))
  operands_good first rest h k = raw_good (gather (operand first) rest) (gather_good (operand first) rest h k)
