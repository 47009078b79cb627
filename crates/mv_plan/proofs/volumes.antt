-- Numbers of volumes.
pub mod Alone
pub mod Totals
pub use Alone.*
pub use Totals.*
