use Rattle.address_space.proofs.Prelude.{◌≡◌, ◌≢◌, ◌∙◌, ◌+◌, ◌%◌, ℕ, List, [], ◌∷◌, length, slice_index, ap, sym, refl, arith, with_frame, frame_bytes, write_at, by_frame, with_frame-same, with_frame-other}
use Rattle.address_space.proofs.steps.Bytes.{write_at-write_at}
use Rattle.address_space.proofs.parts.put_part.Goals as goal

-- three bytes that are written one behind the other
three_put : (m m1 m2 m3 : ℕ → List ℕ) (f at a b c : ℕ) → m1 ≡ with_frame m f (write_at (m f) at (a ∷ [])) → m2 ≡ with_frame m1 f (write_at (m1 f) (at + 1) (b ∷ []))
    → m3 ≡ with_frame m2 f (write_at (m2 f) (at + 2) (c ∷ [])) → m3 ≡ with_frame m f (write_at (m f) at (a ∷ b ∷ c ∷ []))
three_put m m1 m2 m3 f at a b c first second third = by_frame m m3 f (write_at (m f) at (a ∷ b ∷ c ∷ [])) here others
  where
    one : m1 f ≡ write_at (m f) at (a ∷ [])
    one = ap (λ g. g f) first ∙ with_frame-same m f (write_at (m f) at (a ∷ []))

    two : m2 f ≡ write_at (m1 f) (at + 1) (b ∷ [])
    two = ap (λ g. g f) second ∙ with_frame-same m1 f (write_at (m1 f) (at + 1) (b ∷ []))

    next : at + 2 ≡ at + 1 + 1
    next = omega arith

    here : m3 f ≡ write_at (m f) at (a ∷ b ∷ c ∷ [])
    here =
        ap (λ g. g f) third ∙ with_frame-same m2 f (write_at (m2 f) (at + 2) (c ∷ [])) ∙ (λ i. write_at (two i) (next i) (c ∷ []))
        ∙ write_at-write_at (m1 f) (at + 1) b (c ∷ []) ∙ ap (λ xs. write_at xs (at + 1) (b ∷ c ∷ [])) one ∙ write_at-write_at (m f) at a (b ∷ c ∷ [])

    others : (g : ℕ) → g ≢ f → m3 g ≡ m g
    others g apart =
        ap (λ h. h g) third ∙ with_frame-other m2 f g (write_at (m2 f) (at + 2) (c ∷ [])) apart
        ∙ ap (λ h. h g) second ∙ with_frame-other m1 f g (write_at (m1 f) (at + 1) (b ∷ [])) apart
        ∙ ap (λ h. h g) first ∙ with_frame-other m f g (write_at (m f) at (a ∷ [])) apart

-- a list of three
three_of : (xs : List ℕ) → length xs ≡ 3 → xs ≡ slice_index xs 0 ∷ slice_index xs 1 ∷ slice_index xs 2 ∷ []
three_of [] long = absurd (omega (arith, long))
three_of (a ∷ []) long = absurd (omega (arith, long))
three_of (a ∷ b ∷ []) long = absurd (omega (arith, long))
three_of (a ∷ b ∷ c ∷ []) long = refl
three_of (a ∷ b ∷ c ∷ d ∷ xs) long = absurd (omega (arith, long))

pub returns-in-3-clause-frames : goal.returns-in-3-clause-frames
returns-in-3-clause-frames c =
    let part : List ℕ = c.args.part.now in
    let first : c.from-in-3.result % 256 ≡ slice_index part 0 = omega (arith, c.from-in-3.ensures, c.type_inv.part 0) in
    let second : c.from-in-3-2.result % 256 ≡ slice_index part 1 = omega (arith, c.from-in-3-2.ensures, c.type_inv.part 1) in
    let third : c.from-in-3-3.result % 256 ≡ slice_index part 2 = omega (arith, c.from-in-3-3.ensures, c.type_inv.part 2) in
    three_put (frame_bytes c.args.memory.now) (frame_bytes c.put_byte-in-3.new.memory) (frame_bytes c.put_byte-in-3-2.new.memory)
    (frame_bytes c.put_byte-in-3-3.new.memory) c.args.frame c.args.at
    (c.from-in-3.result % 256) (c.from-in-3-2.result % 256) (c.from-in-3-3.result % 256)
    c.put_byte-in-3.ensures.frames c.put_byte-in-3-2.ensures.frames c.put_byte-in-3-3.ensures.frames
    ∙ (λ i. with_frame (frame_bytes c.args.memory.now) c.args.frame
    (write_at (frame_bytes c.args.memory.now c.args.frame) c.args.at (first i ∷ second i ∷ third i ∷ [])))
    ∙ ap (λ xs. with_frame (frame_bytes c.args.memory.now) c.args.frame (write_at (frame_bytes c.args.memory.now c.args.frame) c.args.at xs)) (sym (three_of part c.in-3.is))
