-- The definitions of `Cut`, under the name that they had when private functions alone used them.
pub use Rattle.search.specs.Cut.{Cut, Falls}
