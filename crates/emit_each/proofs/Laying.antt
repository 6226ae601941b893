-- Where the code of operations stands, and its bytes.
use Rattle.std.proofs.Common.{◌≡◌, ℕ, zero, suc, ◌+◌, ◌<◌, ◌≤◌, Bool, List, [], ◌∷◌, ◌++◌, flat_map, refl, sym, ap, ◌∙◌, subst, arith, append_assoc}
use Rattle.std.specs.Prelude.{All, IsTrue, slice_index_or}
use Rattle.std.proofs.lemmas.Grind.{flat_map-append}
use Rattle.msp430_isa.specs.declared.instr.Instr.{Instr}
use Rattle.msp430_isa.specs.Encoding.{words_of}
use Rattle.msp430_isa.specs.Profile.{in_profile}
use Rattle.flow_graph.specs.declared.nodes.Node.{Node}
use Rattle.resumed_runs.specs.Bytes.{bytes_in, bytes_of, bytes_of_word}
use Rattle.resumed_runs.specs.Code.{head, size_of}
use Rattle.laid_code.specs.Chosen.{Piece, chosen_at, chosen_code, head_code, head_size}
use Rattle.graph_code.specs.Pieces.{IsSteady, Template, jumps_to, pieces_by}
use Rattle.each_image.proofs.Places.{head_sized, place_low, size-append}
use Rattle.each_image.proofs.Profile as profile
use Rattle.emit_templates.specs.Placed.{HasHomes}
use Rattle.emit_each.specs.Parts.{AllAllowed, AllHave, end_from, starts_from}

pub head_allowed : (r : ℕ) → r < 65536 → All (λ i. IsTrue (in_profile i)) (head r)
head_allowed r low = profile.head_allowed r low

pub bytes_joined : (xs ys : List Instr) → bytes_in (xs ++ ys) ≡ bytes_in xs ++ bytes_in ys
bytes_joined xs ys = ap bytes_of (flat_map-append words_of xs ys) ∙ flat_map-append bytes_of_word (flat_map words_of xs) (flat_map words_of ys)

-- ---- Places

pub end_low : (k : ℕ) (ps : List Piece) → k ≤ end_from k ps
end_low k [] = omega arith
end_low k (p ∷ ps) = let h = end_low (k + head_size p.has_head + size_of p.template) ps in omega (arith, h)

pub end_is : (k : ℕ) (ps : List Piece) → end_from k ps ≡ k + size_of (chosen_code k ps)
end_is k [] = let e : k ≡ k + 0 = omega arith in e
end_is k (p ∷ ps) =
    let k2 = k + head_size p.has_head + size_of p.template in
    let h = end_is k2 ps in
    let outer = size-append (head_code p.has_head k) (p.template ++ chosen_code k2 ps) in
    let inner = size-append p.template (chosen_code k2 ps) in
    let sized = head_sized p.has_head k in
    omega (arith, h, outer, inner, sized)

pub start_is : (k : ℕ) (ps : List Piece) (i : ℕ) → slice_index_or (starts_from k ps) i (end_from k ps) ≡ chosen_at k ps i
start_is k [] i = refl
start_is k (p ∷ ps) zero = refl
start_is k (p ∷ ps) (suc i) = start_is (k + head_size p.has_head + size_of p.template) ps i

pub start_low : (k : ℕ) (ps : List Piece) (i : ℕ) → slice_index_or (starts_from k ps) i (end_from k ps) ≤ end_from k ps
start_low k ps i = let is = start_is k ps i in let low = place_low k ps i in let end = end_is k ps in omega (arith, is, low, end)

-- where the last ends doesn't depend on where jumps go to
pub end_same : (t : Template) (heads : ℕ → Bool) → IsSteady t → (a b : ℕ → ℕ) (k : ℕ) (xs : List Node) → end_from k (pieces_by t heads a xs) ≡ end_from k (pieces_by t heads b xs)
end_same t heads steady a b k [] = refl
end_same t heads steady a b k (x ∷ xs) =
    ap (λ n. end_from (k + head_size (heads x.op.number) + n) (pieces_by t heads a xs)) (steady (a (jumps_to x.next)) (b (jumps_to x.next)) x.op)
    ∙ end_same t heads steady a b (k + head_size (heads x.op.number) + size_of (t (b (jumps_to x.next)) x.op)) xs

-- ---- An operation more

module _ (t : Template) (heads : ℕ → Bool) (address : ℕ → ℕ) (x : Node) (left rest : List Node) (split : left ≡ x ∷ rest) where
  abbrev here : List Instr
  here = t (address (jumps_to x.next)) x.op

  abbrev size : ℕ
  size = head_size (heads x.op.number) + size_of (t (address (jumps_to x.next)) x.op)

  behind : (k : ℕ) → k + head_size (heads x.op.number) + size_of (t (address (jumps_to x.next)) x.op) ≡ k + size
  behind k = omega arith

  pub bytes_more : (k n : ℕ) (to first second goal : List ℕ) → first ≡ to ++ bytes_in (head_code (heads x.op.number) k) → second ≡ first ++ bytes_in (t (address (jumps_to x.next)) x.op)
      → n ≡ head_size (heads x.op.number) + size_of (t (address (jumps_to x.next)) x.op) → to ++ bytes_in (chosen_code k (pieces_by t heads address left)) ≡ goal
      → second ++ bytes_in (chosen_code (k + n) (pieces_by t heads address rest)) ≡ goal
  bytes_more k n to first second goal one two size_is h =
      let ps = pieces_by t heads address rest in
      let k2 = k + head_size (heads x.op.number) + size_of here in
      let more = bytes_in (chosen_code k2 ps) in
      let to_k2 : k + n ≡ k2 = omega (arith, size_is) in
      ap (λ m. second ++ bytes_in (chosen_code m ps)) to_k2
      ∙ ap (λ l. l ++ more) (two ∙ ap (λ l. l ++ bytes_in here) one)
      ∙ append_assoc (to ++ bytes_in (head_code (heads x.op.number) k)) (bytes_in here) more
      ∙ append_assoc to (bytes_in (head_code (heads x.op.number) k)) (bytes_in here ++ more)
      ∙ ap (λ l. to ++ (bytes_in (head_code (heads x.op.number) k) ++ l)) (sym (bytes_joined here (chosen_code k2 ps)))
      ∙ ap (λ l. to ++ l) (sym (bytes_joined (head_code (heads x.op.number) k) (here ++ chosen_code k2 ps)))
      ∙ ap (λ l. to ++ bytes_in (chosen_code k (pieces_by t heads address l))) (sym split)
      ∙ h

  pub end_more : (k n goal : ℕ) → n ≡ head_size (heads x.op.number) + size_of (t (address (jumps_to x.next)) x.op) → end_from k (pieces_by t heads address left) ≡ goal
      → end_from (k + n) (pieces_by t heads address rest) ≡ goal
  end_more k n goal size_is h =
      let to_k2 : k + n ≡ k + head_size (heads x.op.number) + size_of here = omega (arith, size_is) in
      ap (λ m. end_from m (pieces_by t heads address rest)) to_k2 ∙ (ap (λ l. end_from k (pieces_by t heads address l)) (sym split) ∙ h)

  pub starts_more : (k n : ℕ) (starts goal : List ℕ) → n ≡ head_size (heads x.op.number) + size_of (t (address (jumps_to x.next)) x.op)
      → starts ++ starts_from k (pieces_by t heads address left) ≡ goal → (starts ++ k ∷ []) ++ starts_from (k + n) (pieces_by t heads address rest) ≡ goal
  starts_more k n starts goal size_is h =
      let to_k2 : k + n ≡ k + head_size (heads x.op.number) + size_of here = omega (arith, size_is) in
      append_assoc starts (k ∷ []) (starts_from (k + n) (pieces_by t heads address rest))
      ∙ (ap (λ m. starts ++ k ∷ starts_from m (pieces_by t heads address rest)) to_k2 ∙ (ap (λ l. starts ++ starts_from k (pieces_by t heads address l)) (sym split) ∙ h))

-- the same, by what was called
pub record Appended (t : Template) (heads : ℕ → Bool) (address : ℕ → ℕ) (x : Node) (k n : ℕ) (to second : List ℕ) : Type 0 where
  pub has : Bool
  pub jump : ℕ
  pub target : ℕ
  pub first : List ℕ
  pub head_words : ℕ
  pub words : ℕ
  pub has_is : has ≡ heads x.op.number
  pub jump_is : jump ≡ jumps_to x.next
  pub target_is : target ≡ address jump
  pub first_is : first ≡ to ++ bytes_in (head_code has k)
  pub second_is : second ≡ first ++ bytes_in (t target x.op)
  pub head_words_are : head_words ≡ head_size has
  pub words_are : words ≡ size_of (t target x.op)
  pub sum_is : n ≡ head_words + words

module _ (t : Template) (heads : ℕ → Bool) (address : ℕ → ℕ) (x : Node) (left rest : List Node) (k n : ℕ) (to second : List ℕ) (split : left ≡ x ∷ rest) (p : Appended t heads address x k n to second) where
  goes : p.target ≡ address (jumps_to x.next)
  goes = p.target_is ∙ ap address p.jump_is

  sum_is : n ≡ head_size (heads x.op.number) + size_of (t (address (jumps_to x.next)) x.op)
  sum_is =
      let h = p.head_words_are ∙ ap head_size p.has_is in
      let w = p.words_are ∙ ap (λ a. size_of (t a x.op)) goes in
      let s = p.sum_is in
      omega (arith, h, w, s)

  pub appended_bytes : (goal : List ℕ) → to ++ bytes_in (chosen_code k (pieces_by t heads address left)) ≡ goal → second ++ bytes_in (chosen_code (k + n) (pieces_by t heads address rest)) ≡ goal
  appended_bytes goal h = bytes_more t heads address x left rest split k n to p.first second goal (p.first_is ∙ ap (λ c. to ++ bytes_in (head_code c k)) p.has_is)
      (p.second_is ∙ ap (λ a. p.first ++ bytes_in (t a x.op)) goes) sum_is h

  pub appended_end : (goal : ℕ) → end_from k (pieces_by t heads address left) ≡ goal → end_from (k + n) (pieces_by t heads address rest) ≡ goal
  appended_end goal h = end_more t heads address x left rest split k n goal sum_is h

-- the rest of a list of which all is known
pub rest_have : (places : List ℕ) (x : Node) (left rest : List Node) → left ≡ x ∷ rest → AllHave places left → HasHomes places x.op × AllHave places rest
rest_have places x left rest e h = subst (λ (xs : List Node). AllHave places xs) e h

pub rest_allowed : (t : Template) (address : ℕ → ℕ) (x : Node) (left rest : List Node) → left ≡ x ∷ rest → AllAllowed t address left
    → All (λ i. IsTrue (in_profile i)) (t (address (jumps_to x.next)) x.op) × AllAllowed t address rest
rest_allowed t address x left rest e h = subst (λ (xs : List Node). AllAllowed t address xs) e h
