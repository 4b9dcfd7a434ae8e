-- Cash, gains and losses, and who pays.
-- the movements of cash that trades bring, and outstanding shares
pub mod Cash
-- what a correction changes, class by class
pub mod Gains
-- who pays a loss, and what is booked
pub mod Payments
