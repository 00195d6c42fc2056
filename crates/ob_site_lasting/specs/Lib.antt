pub mod SiteLasting
