-- What accesses cost.
use Rattle.process_table.proofs.Prelude.{◌≡◌, ℕ, ◌+◌, ◌∙◌, byte_count, touched, Size, Spaces, cost, access_need, with_pages, all_accessed, all_stored, bytes_of, cost-same, touched-there, bytes_there, key-all_accessed, key-all_stored, State, after_load, after_store, cost-with_touched}

-- a load costs what its pages need
pub load_charge : (s : State) (p address : ℕ) (size : Size) → cost (after_load s p address size).spaces p ≡ cost s.spaces p + access_need s.spaces p address size
load_charge s p address size =
    let T : Spaces = with_pages s.spaces p (touched address size) in
    cost-same (all_accessed T p (touched address size)) T p (key-all_accessed T p address size (touched-there s.spaces p address size)) ∙ cost-with_touched s.spaces p address size

-- and so does a store
pub store_charge : (s : State) (p address : ℕ) (size : Size) (value : ℕ) → cost (after_store s p address size value).spaces p ≡ cost s.spaces p + access_need s.spaces p address size
store_charge s p address size value =
    let T : Spaces = with_pages s.spaces p (touched address size) in
    cost-same (all_stored T p address (bytes_of (byte_count size) value)) T p (key-all_stored T p address (byte_count size) value (bytes_there T p address size (touched-there s.spaces p address size))) ∙ cost-with_touched s.spaces p address size
