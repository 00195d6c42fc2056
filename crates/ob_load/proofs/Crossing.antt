-- A site that was opened may go to another thread.
pub use Rattle.ob_site.proofs.Crossing.{site_send}
