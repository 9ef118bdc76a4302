use Rattle.std.proofs.Common.{◌≡◌, ◌++◌, [], ℕ, List, Option, Some, None, subst}
use Rattle.std.specs.Prelude.{take, option_map, IfSome}
use Rattle.command_answers.specs.Files.{IsRead}
use Rattle.command_answers.proofs.files.bytes_of.Goals as goal

-- what the limit leaves of a reader's bytes is what is read
read_so : (remained : Option (List ℕ)) (limit : ℕ) (old new : List ℕ) → limit ≡ 16844301 → old ≡ [] → IfSome (option_map (take limit) remained) (λ xs. new ≡ old ++ xs) → IsRead remained new
read_so None limit old new at none read = tt
read_so (Some xs) limit old new at none read = subst (λ n. new ≡ take n xs) at (subst (λ (front : List ℕ). new ≡ front ++ take limit xs) none read)

pub returns-in-Ok-clause-read : goal.returns-in-Ok-clause-read
returns-in-Ok-clause-read g c =
    let inner = c.take.ensures.inner in
    read_so (g.F.Read.remaining c.args.file) c.take.result.limit c.new-bytes.result.items c.read_to_end.new.buf.items c.take.ensures.limit c.new-bytes.ensures.items
    (subst (λ file. IfSome (option_map (take c.take.result.limit) (g.F.Read.remaining file)) (λ xs. c.read_to_end.new.buf.items ≡ c.new-bytes.result.items ++ xs)) inner c.in-Ok.ensures.bytes)
