-- What stands at a page of a process.
use Rattle.std.specs.Prelude.{ℕ, Option, option_map}
use Rattle.kernel_calls.specs.Below.{at_page, shown, is_lazy_at, View, memory_of}
use Rattle.kernel_calls.specs.declared.pages.PageState.{PageState}
use Rattle.page_words.specs.FiniteMap as map

-- the flags of a page's cell, the size of its group, and whether it is lazy; nothing where it is not mapped
abbrev pub page_in : View → ℕ → ℕ → Option PageState
page_in v p page = option_map (λ cell. record { cell = shown cell; lazy = is_lazy_at (memory_of v) (at_page p page) }) (map.get v.state.spaces (at_page p page))
